use Rattle.std.proofs.Common.{ℕ, List, Result, Ok, Err, IfOk}
use Rattle.be_query.specs.Rpn.{item_of}
use Rattle.be_session.specs.Items.{IsItemMeant}
use Rattle.be_session.proofs.items.item.Goals as goal

weaker : {T E : Type 0} (r : Result T E) (P Q : T → Type 0) → ((x : T) → P x → Q x) → IfOk r P → IfOk r Q
weaker (Ok x) P Q follows p = follows x p
weaker (Err e) P Q follows p = tt

pub returns-in_default-clause-ok : goal.returns-in_default-clause-ok
returns-in_default-clause-ok c =
    weaker c.working_item.result (λ item. (number : ℕ) (bytes : List ℕ) → IsItemMeant c.args.kind number bytes (item_of item))
    (λ item. IsItemMeant c.args.kind c.args.number c.args.bytes.now (item_of item)) (λ item meant. meant c.args.number c.args.bytes.now)
    c.working_item.ensures.ok
