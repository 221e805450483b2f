use Rattle.std.proofs.Common.{◌≡◌, ◌∙◌, ◌++◌, ℕ, suc, ap, subst, arith, length, nat_lt, take}
use Rattle.std.specs.Option.{option_copied}
use Rattle.be_order.specs.Ordered.{cursor_bytes, nodes_of}
use Rattle.be_order.specs.Walks.{AreFirst, HasWalked, IsEntry}
use Rattle.be_order.proofs.IndexParts.{walked_held}
use Rattle.be_order.proofs.WalkedPages.{walked_page}
use Rattle.be_order.proofs.prepared.walk_page.Goals as goal

pub returns-clause-page : goal.returns-clause-page
returns-clause-page g c = λ f kind is on decides.
    let s = g.volume in
    let by = c.args.keys.name.now in
    let low = c.args.keys.low.now in
    let high = option_copied c.args.keys.high in
    let d = c.args.order.descending in
    let cursor = cursor_bytes c.args.cursor.now in
    let most = c.args.order.most in
    let before = c.clear.new.self.items in
    let found = c.first_nodes.new.found in
    let walked : HasWalked (IsEntry s by low high) d cursor c.in-Some.most before found.items = c.in_ok-first_nodes.ensures.walked c.if-not-branch.false s c.requires.1 in
    let all : found.items ≡ nodes_of walked.entries = walked.added ∙ ap (λ l. l ++ nodes_of walked.entries) c.clear.ensures.items in
    let one_more : c.in-Some.most ≡ suc most = omega (arith, c.in-Some.ensures) in
    let P : ℕ → Type 0 = λ n. AreFirst (IsEntry s by low high) d cursor n walked.entries in
    let count : c.len.result ≡ length (nodes_of walked.entries) = omega (arith, c.len.ensures, found.ok.0, ap length all) in
    walked_page s (g.met.S.Source.sound c.args.source.now s c.requires.1) f by kind is on low high decides d cursor most walked.entries (subst P one_more walked.first)
    c.keep_first.new.found.items (cursor_bytes c.keep_first.new.cursor) (nat_lt most c.len.result)
    (c.keep_first.ensures.kept ∙ ap (take most) all)
    (λ e. ap cursor_bytes (c.keep_first.ensures.empty e))
    (λ n front e. c.keep_first.ensures.last n front e)
    (ap (nat_lt most) count)

pub keep_first-requires : goal.keep_first-requires
keep_first-requires g c κs within =
    let s = g.volume in
    let keys = c.args.keys in (
      within,
      (
        c.first_nodes.ensures.answers s c.requires.1,
        walked_held s keys.name.now keys.low.now (option_copied keys.high) c.args.order.descending (cursor_bytes c.args.cursor.now) c.in-Some.most c.clear.new.self.items c.first_nodes.new.found.items
            (c.in_ok-first_nodes.ensures.walked c.if-not-branch.false s c.requires.1) c.clear.ensures.items,
      ),
    )
