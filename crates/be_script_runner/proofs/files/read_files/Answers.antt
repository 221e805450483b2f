use Rattle.std.proofs.Common.{◌≡◌, ◌+◌, ◌^◌, ◌++◌, ◌∷◌, [], true, false, length, length-append, nat_lt, vec_len, ap, sym, ◌∙◌, subst, arith, is_ok, not, if◌then◌else◌}
use Rattle.std.specs.List.{list_any}
use Rattle.std.proofs.lemmas.Bool.Decides.{nat_tests}
use Rattle.be_script_runner.proofs.FileLemmas.{none_pushed}
use Rattle.be_script_runner.proofs.files.read_files.Goals as goal

pub loop-place-preserved : goal.loop-place-preserved
loop-place-preserved g c =
    let i = c.loop-place.invariant in
    let scripts = c.loop-place.scripts in
    let script = c.in-Ok.script in
    let ok : is_ok c.push.result ≡ true = c.is_err.ensures.negation ∙ ap not c.if-is_err.false in
    let items : c.push.new.self.items ≡ scripts.items ++ script ∷ [] = c.push.ensures.items ∙ ap (λ b. if b then scripts.items ++ script ∷ [] else scripts.items) ok in
    let len : length c.push.new.self.items ≡ length scripts.items + 1 = ap length items ∙ length-append scripts.items (script ∷ []) in
    let fits : nat_lt (2 ^ 20) (vec_len script) ≡ false = grind (arith, nat_tests, c.in-Ok.ensures.fits) in
    record {
      count = omega (arith, len, i.count, scripts.ok.0, c.push.new.self.ok.0);
      short = subst (λ l. list_any (λ s. nat_lt (2 ^ 20) (vec_len s)) l ≡ false) (sym items) (none_pushed (λ s. nat_lt (2 ^ 20) (vec_len s)) scripts.items script i.short fits);
    }
