use Rattle.std.proofs.Common.{◌≡◌, subst, sym, ◌∙◌}
use Rattle.be_session.specs.Items.{IsBuilt, IsUnbuilt}
use Rattle.std.specs.Prelude.{is_some}
use Rattle.bestore_c.proofs.Unprepared.{prepares_none}
use Rattle.bestore_c.proofs.bes_prepare_items.Goals as goal

pub returns-in-Err : goal.returns-in-Err
returns-in-Err c =
    let open_is : c.args.prepared.now.live ≡ is_some c.args.prepared.now.owned.value = c.args.prepared.now.full in
    let why = subst (IsUnbuilt c.args.encoded.now c.args.bytes.now c.in-Err.invalid.fault) (sym c.refuse_list.ensures.place) c.in-Err.ensures.err in
    prepares_none (IsBuilt c.args.encoded.now c.args.bytes.now) (IsUnbuilt c.args.encoded.now c.args.bytes.now) c.args.prepared.now.owned.value
    c.in-Err.invalid.fault c.refuse_list.new.number
    c.refuse_list.result (sym open_is ∙ c.if-prepared.false) c.refuse_list.ensures.code why
