use Rattle.std.proofs.Common.{◌≡◌, ℕ, List, [], IsTrue, true, get_or, Some, None, ap, sym, subst, ◌∙◌, arith}
use Rattle.std.specs.List.{slice_get}
use Rattle.std.specs.Option.{option_map}
use Rattle.be_pages.specs.declared.room.PageState.{PageState}
use Rattle.be_pages.specs.Pages.{is_readable}
use Rattle.be_tree_reading.specs.Pair.{Pair}
use Rattle.be_tree_reading.specs.Page.{IsItem, item_at}
use Rattle.be_tree_reading.specs.Cursor.{IsCursor, remaining}
use Rattle.be_tree_reading.specs.Range.{pairs_from}
use Rattle.be_tree_reading.specs.Tree.{IsTree, pairs}
use Rattle.be_tree_reading.proofs.Trees.{tree_rising}
use Rattle.be_value.specs.declared.values.Kind.TheVariants as kinds
use Rattle.be_paged_reading.specs.Entry.{Entry}
use Rattle.be_paged_reading.specs.Page.{IsNamedAt, contents_of}
use Rattle.be_paged_reading.specs.Source.{IsKnown}
use Rattle.be_paged_reading.proofs.Stored.PageIndices.{source_since}
use Rattle.be_paged_reading.proofs.Asking.SourceKeys.{entry_tree, no_key, is_next_key, beyond_next}
use Rattle.be_paged_reading.proofs.Versions.{version_since}
use Rattle.be_paged_reading.proofs.paged_source.PagedSourceSource.next_key.Goals as goal

nowhere : Entry
nowhere = record { name = []; kind = kinds.Cstr; root = 0 }

pub known_index-requires : goal.known_index-requires
known_index-requires g c = record { version = (c.requires.0, c.requires.1.version); known = c.requires.1.known_is }

pub returns-in_default-clause-answer : goal.returns-in_default-clause-answer
returns-in_default-clause-answer g c = λ volume of k is.
    let self = c.args.self.now in
    let w = g.L.Look.words c.known_index.new.look in
    let since = c.in_default.ensures.unchanged in
    let version = version_since (g.L.Look.page_state self.look) (g.L.Look.page_state c.known_index.new.look) (g.L.Look.words self.look) w self.page volume since.page_state since.words of.version in
    absurd (no_key w (contents_of (w self.page)) volume c.args.name.now c.in_default.ensures.found.absent.0 version.encodes c.in_default.ensures.found.absent.1 k is)

pub returns-in_default-clause-answers : goal.returns-in_default-clause-answers
returns-in_default-clause-answers g c = λ volume of.
    let self = c.args.self.now in
    let since = c.in_default.ensures.unchanged in
    source_since (g.L.Look.page_state self.look) (g.L.Look.page_state c.known_index.new.look) (g.L.Look.words self.look) (g.L.Look.words c.known_index.new.look) self.page self.known c.known_index.new.known self.cursor self.place self.last.0 self.last.1 volume since.page_state since.words c.in_default.ensures.known of

pub walk_to-requires-clause-index : goal.walk_to-requires-clause-index
walk_to-requires-clause-index g c =
    let found = c.in-Some.ensures.found in
    record { in_range = found.named.in_range; kind = found.kind; root = found.root }

pub walk_to-requires-clause-tree : goal.walk_to-requires-clause-tree
walk_to-requires-clause-tree g c =
    let self = c.args.self.now in
    let s = g.L.Look.page_state c.known_index.new.look in
    let w = g.L.Look.words c.known_index.new.look in
    let since = c.in-Some.ensures.unchanged in
    let version = version_since (g.L.Look.page_state self.look) s (g.L.Look.words self.look) w self.page c.requires.0 since.page_state since.words c.requires.1.version in
    subst (IsTree s w) (sym (c.in-Some.ensures.found.root nowhere)) (entry_tree s w (contents_of (w self.page)) c.in-Some.index.place nowhere version.in_hand c.in-Some.ensures.found.named.in_range)

pub walk_to-requires-clause-beyond : goal.walk_to-requires-clause-beyond
walk_to-requires-clause-beyond g c =
    let self = c.args.self.now in
    let since = c.in-Some.ensures.unchanged in
    let now = source_since (g.L.Look.page_state self.look) (g.L.Look.page_state c.known_index.new.look) (g.L.Look.words self.look) (g.L.Look.words c.known_index.new.look) self.page self.known c.known_index.new.known self.cursor self.place self.last.0 self.last.1 c.requires.0 since.page_state since.words c.in-Some.ensures.known c.requires.1 in
    now.beyond

pub returns-in_err-page-clause-answer : goal.returns-in_err-page-clause-answer
returns-in_err-page-clause-answer g c = λ volume of.
    let self0 = c.args.self.now in
    let page = self0.page in
    let name = c.args.name.now in
    let place = c.in-Some.index.place in
    let s0 = g.L.Look.page_state self0.look in
    let s1 = g.L.Look.page_state c.known_index.new.look in
    let w0 = g.L.Look.words self0.look in
    let w1 = g.L.Look.words c.known_index.new.look in
    let first = c.in-Some.ensures.unchanged in
    let self2 = c.walk_to.new.self in
    let s2 = g.L.Look.page_state self2.look in
    let w2 = g.L.Look.words self2.look in
    let step = c.walk_to.ensures.unchanged in
    let version = version_since s1 s2 w1 w2 page volume step.page_state step.words (version_since s0 s1 w0 w1 page volume first.page_state first.words of.version) in
    let contents = contents_of (w2 page) in
    let named = subst (λ (u : ℕ → ℕ → ℕ). IsNamedAt (contents_of (u page)).entries name place) (sym step.words) c.in-Some.ensures.found.named in
    let root : c.in-Some.index.root ≡ (get_or contents.entries place nowhere).root = c.in-Some.ensures.found.root nowhere ∙ ap (λ (u : ℕ → ℕ → ℕ). (get_or (contents_of (u page)).entries place nowhere).root) (sym step.words) in
    let rising = tree_rising s2 w2 (get_or contents.entries place nowhere).root (entry_tree s2 w2 contents place nowhere version.in_hand named.in_range) in
    rw c.from_residual.ensures
    (is_next_key w2 contents volume name place nowhere version.encodes named rising c.args.from.now c.args.after (remaining w2 self2.cursor) None
    (c.walk_to.ensures.rest ∙ ap (λ (r : ℕ). pairs_from (pairs w2 r) c.args.from.now c.args.after) root) (sym (ap (λ (xs : List Pair). option_map (λ (x : Pair). x.key) (slice_get xs 0)) c.in_err-page.ensures.none)))

pub returns-clause-answer : goal.returns-clause-answer
returns-clause-answer g c = λ volume of.
    let self0 = c.args.self.now in
    let page = self0.page in
    let name = c.args.name.now in
    let place = c.in-Some.index.place in
    let s0 = g.L.Look.page_state self0.look in
    let s1 = g.L.Look.page_state c.known_index.new.look in
    let w0 = g.L.Look.words self0.look in
    let w1 = g.L.Look.words c.known_index.new.look in
    let first = c.in-Some.ensures.unchanged in
    let self2 = c.walk_to.new.self in
    let s2 = g.L.Look.page_state self2.look in
    let w2 = g.L.Look.words self2.look in
    let step = c.walk_to.ensures.unchanged in
    let version = version_since s1 s2 w1 w2 page volume step.page_state step.words (version_since s0 s1 w0 w1 page volume first.page_state first.words of.version) in
    let contents = contents_of (w2 page) in
    let named = subst (λ (u : ℕ → ℕ → ℕ). IsNamedAt (contents_of (u page)).entries name place) (sym step.words) c.in-Some.ensures.found.named in
    let root : c.in-Some.index.root ≡ (get_or contents.entries place nowhere).root = c.in-Some.ensures.found.root nowhere ∙ ap (λ (u : ℕ → ℕ → ℕ). (get_or (contents_of (u page)).entries place nowhere).root) (sym step.words) in
    let rising = tree_rising s2 w2 (get_or contents.entries place nowhere).root (entry_tree s2 w2 contents place nowhere version.in_hand named.in_range) in
    let key = c.key_at.ensures.key ∙ ap (λ (u : ℕ → ℕ → ℕ). (item_at (u c.in_ok-page.page) c.in_ok-page.at).key) c.in_ok-page.ensures.unchanged.words in
    is_next_key w2 contents volume name place nowhere version.encodes named rising c.args.from.now c.args.after (remaining w2 self2.cursor) (Some c.key_at.result.items)
    (c.walk_to.ensures.rest ∙ ap (λ (r : ℕ). pairs_from (pairs w2 r) c.args.from.now c.args.after) root) (ap (λ (k : List ℕ). Some k) key ∙ sym (ap (option_map (λ (x : Pair). x.key)) c.in_ok-page.ensures.item))

pub returns-in_err-page-clause-answers : goal.returns-in_err-page-clause-answers
returns-in_err-page-clause-answers g c = λ volume of.
    let self0 = c.args.self.now in
    let page = self0.page in
    let name = c.args.name.now in
    let place = c.in-Some.index.place in
    let s0 = g.L.Look.page_state self0.look in
    let s1 = g.L.Look.page_state c.known_index.new.look in
    let w0 = g.L.Look.words self0.look in
    let w1 = g.L.Look.words c.known_index.new.look in
    let first = c.in-Some.ensures.unchanged in
    let self2 = c.walk_to.new.self in
    let s2 = g.L.Look.page_state self2.look in
    let w2 = g.L.Look.words self2.look in
    let step = c.walk_to.ensures.unchanged in
    let version = version_since s1 s2 w1 w2 page volume step.page_state step.words (version_since s0 s1 w0 w1 page volume first.page_state first.words of.version) in
    let contents = contents_of (w2 page) in
    let named = subst (λ (u : ℕ → ℕ → ℕ). IsNamedAt (contents_of (u page)).entries name place) (sym step.words) c.in-Some.ensures.found.named in
    let last = c.in_err-page.ensures.unchanged in
    let now = version_since s2 (g.L.Look.page_state c.step.new.look) w2 (g.L.Look.words c.step.new.look) page volume last.page_state last.words version in
    rw (c.walk_to.ensures.page, c.walk_to.ensures.known) (record {
      version = now;
      known_is = subst (λ (u : ℕ → ℕ → ℕ). IsKnown (contents_of (u page)).entries c.known_index.new.known) (sym (last.words ∙ step.words)) c.in-Some.ensures.known;
      beyond = record { can_go_on = λ lt. absurd (omega (arith, lt, now.in_hand.few)); last = λ lt. absurd (omega (arith, lt, now.in_hand.few)); rest = λ d lt. absurd (omega (arith, lt, now.in_hand.few)) };
    })

pub returns-clause-answers : goal.returns-clause-answers
returns-clause-answers g c = λ volume of.
    let self0 = c.args.self.now in
    let page = self0.page in
    let name = c.args.name.now in
    let place = c.in-Some.index.place in
    let s0 = g.L.Look.page_state self0.look in
    let s1 = g.L.Look.page_state c.known_index.new.look in
    let w0 = g.L.Look.words self0.look in
    let w1 = g.L.Look.words c.known_index.new.look in
    let first = c.in-Some.ensures.unchanged in
    let self2 = c.walk_to.new.self in
    let s2 = g.L.Look.page_state self2.look in
    let w2 = g.L.Look.words self2.look in
    let step = c.walk_to.ensures.unchanged in
    let version = version_since s1 s2 w1 w2 page volume step.page_state step.words (version_since s0 s1 w0 w1 page volume first.page_state first.words of.version) in
    let contents = contents_of (w2 page) in
    let named = subst (λ (u : ℕ → ℕ → ℕ). IsNamedAt (contents_of (u page)).entries name place) (sym step.words) c.in-Some.ensures.found.named in
    let s3 = g.L.Look.page_state c.key_at.new.look in
    let w3 = g.L.Look.words c.key_at.new.look in
    let page_state : s3 ≡ s2 = c.key_at.ensures.unchanged.page_state ∙ c.in_ok-page.ensures.unchanged.page_state in
    let words : w3 ≡ w2 = c.key_at.ensures.unchanged.words ∙ c.in_ok-page.ensures.unchanged.words in
    let p = c.in_ok-page.page in
    let at = c.in_ok-page.at in
    rw (c.walk_to.ensures.page, c.walk_to.ensures.known) (record {
      version = version_since s2 s3 w2 w3 page volume page_state words version;
      known_is = subst (λ (u : ℕ → ℕ → ℕ). IsKnown (contents_of (u page)).entries c.known_index.new.known) (sym (words ∙ step.words)) c.in-Some.ensures.known;
      beyond = record {
        can_go_on = λ lt. subst (λ (u : ℕ → PageState). IsCursor u w3 c.step.new.self) (sym page_state) (subst (λ (u : ℕ → ℕ → ℕ). IsCursor s2 u c.step.new.self) (sym words) c.in_ok-page.ensures.cursor);
        last = λ lt. (
          subst (λ (u : ℕ → PageState). IsTrue (is_readable (u p))) (sym page_state) c.in_ok-page.ensures.here.0,
          (c.in_ok-page.ensures.here.1.0, subst (λ (u : ℕ → ℕ → ℕ). IsItem (u p) at) (sym words) c.in_ok-page.ensures.here.1.1),
        );
        rest = λ d lt.
            let root : c.in-Some.index.root ≡ (get_or contents.entries place d).root = c.in-Some.ensures.found.root d ∙ ap (λ (u : ℕ → ℕ → ℕ). (get_or (contents_of (u page)).entries place d).root) (sym step.words) in
            let rising = tree_rising s2 w2 (get_or contents.entries place d).root (entry_tree s2 w2 contents place d version.in_hand named.in_range) in
            ap (λ (u : ℕ → ℕ → ℕ). remaining u c.step.new.self) words ∙ c.in_ok-page.ensures.remaining
            ∙ beyond_next (pairs w2 (get_or contents.entries place d).root) rising c.args.from.now c.args.after (remaining w2 self2.cursor) (item_at (w2 p) at).key
            (c.walk_to.ensures.rest ∙ ap (λ (r : ℕ). pairs_from (pairs w2 r) c.args.from.now c.args.after) root) (sym (ap (option_map (λ (x : Pair). x.key)) c.in_ok-page.ensures.item))
            ∙ ap (λ (u : ℕ → ℕ → ℕ). pairs_from (pairs u (get_or (contents_of (u page)).entries place d).root) (item_at (u p) at).key true) (sym words);
      };
    })
