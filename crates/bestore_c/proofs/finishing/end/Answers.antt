use Rattle.std.proofs.Common.{◌≡◌, ap, arith, length}
use Rattle.be_journal.specs.Journal.{Log}
use Rattle.bestore_c.proofs.Ended.{ended}
use Rattle.bestore_c.proofs.finishing.end.Goals as goal

pub returns-else-len-seen-clause-end : goal.returns-else-len-seen-clause-end
returns-else-len-seen-clause-end c =
    let session = c.args.session in
    let long : length c.in-Ok.journal.entries ≡ length session.knows.seen =
    omega (arith, c.if-len-seen.false, c.len.ensures.len, c.seen-seen.ensures, ap (λ (l : Log). length l.entries) c.journal.view_is) in
    ended session.store.limits session.knows c.in-Ok.journal c.args.text.now c.args.bytes.now c.put_text.new.bytes c.put_text.new.count c.in-Ok.ensures.ok long
    c.requires.text c.requires.room c.put_text.ensures.count c.put_text.ensures.bytes
