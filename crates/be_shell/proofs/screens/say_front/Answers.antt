use Rattle.std.proofs.Common.{◌≡◌, ◌++◌, drop}
use Rattle.be_script_runner.proofs.RunLemmas.{always_err}
use Rattle.be_shell.specs.Escape.{shown}
use Rattle.be_shell.proofs.ScreenLemmas.{front_of_more}
use Rattle.be_shell.proofs.screens.say_front.Goals as goal

pub returns-in_err-say-clause-cut : goal.returns-in_err-say-clause-cut
returns-in_err-say-clause-cut g c =
    let cut = c.in_err-say.ensures.cut in
    let tail = shown c.in-Some.rest.now in
    let e : shown c.args.bytes.now ≡ c.as_slice.result.now ++ tail = cc (c.in-Some.ensures.some, c.mark.ensures, c.as_slice.ensures) in
    always_err c.from_residual.result (cut.0, front_of_more (shown c.args.bytes.now) c.as_slice.result.now tail cut.0 e cut.1, cut.2)

pub returns-in_err-say-2-clause-cut : goal.returns-in_err-say-2-clause-cut
returns-in_err-say-2-clause-cut g c =
    let cut = c.in_err-say-2.ensures.cut in
    let tail = shown (drop c.plain_len.result c.args.bytes.now) in
    let e : shown c.args.bytes.now ≡ c.split_at.result.0.now ++ tail = cc (c.plain_len.ensures.plain, c.split_at.ensures.front) in
    always_err c.from_residual-in_err-say-2.result (cut.0, front_of_more (shown c.args.bytes.now) c.split_at.result.0.now tail cut.0 e cut.1, cut.2)
