use Rattle.std.proofs.Common.{◌≡◌, ◌+◌, ◌-◌, ◌++◌, ◌∷◌, [], length, sym, ap, ◌∙◌, arith}
use Rattle.be_journal.specs.Blocks.{Filled}
use Rattle.be_journal.specs.declared.entries.Entry.{Entry}
use Rattle.be_journal.proofs.ListLemmas.{some_last, pushed_last, filled_last}
use Rattle.be_journal.proofs.blocks.push_last.Goals as goal

more : (c : goal.After-push) → c.push.new.self.entries ≡ c.index-blocks-last.result.entries ++ record { by = c.args.by; ops = c.args.ops.now; dones = c.args.dones.now } ∷ []
more c =
    let e : Entry = record { by = c.args.by; ops = c.args.ops.now; dones = c.args.dones.now } in
    c.push.ensures ∙ ap (λ (b : Filled). b.entries ++ e ∷ []) (sym c.index-blocks-last.is)

pub returns-clause-entries : goal.returns-clause-entries
returns-clause-entries c =
    let last : length c.args.blocks.now ≡ length c.args.blocks.now - 1 + 1 = omega (arith, some_last (length c.args.ops.now) c.args.blocks.now c.requires.room) in
    pushed_last c.args.blocks.now (length c.args.blocks.now - 1) c.index-blocks-last.result c.push.new.self (record { by = c.args.by; ops = c.args.ops.now; dones = c.args.dones.now }) last c.index-blocks-last.is (more c)

pub returns-clause-filled : goal.returns-clause-filled
returns-clause-filled c = λ are.
    filled_last c.args.blocks.now (length c.args.blocks.now - 1) c.index-blocks-last.result c.push.new.self (record { by = c.args.by; ops = c.args.ops.now; dones = c.args.dones.now }) (more c) are
