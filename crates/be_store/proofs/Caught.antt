-- A list that was the answer and is changed at a few nodes, so that it matches the query as it is now, is the new answer.
use Rattle.std.proofs.Common.{◌≡◌, ◌≤◌, ◌<◌, ◌+◌, ◌-◌, ◌&&◌, ◌||◌, not, ℕ, Bool, true, false, if◌then◌else◌, List, [], filter, get_or, length, refl, sym, ap, subst, take, ◌∙◌, inl, inr, arith, Some, None, Ok, Err, is_some}
use Rattle.std.proofs.lemmas.Bool.{cases_lt}
use Rattle.std.proofs.lemmas.List.{append-nil, get_or_append_left, get_or_default, length-map, take-append-le}
use Rattle.std.specs.Option.{option_and_then, option_map_or}
use Rattle.std.specs.declared.option.Option.{Option}
use Rattle.std.proofs.lemmas.List.Kept.{IsStrictlyIncreasing-filter}
use Rattle.std.specs.FinMap as fin
use Rattle.std.specs.List.Sorted.{IsStrictlyIncreasing}
use Rattle.std.specs.Prelude.{◌⊎◌, IfErr, IfOk, OnOk, Result}
use Rattle.be_core.specs.declared.event.Phase.TheVariants.{Pinned}
use Rattle.be_core.specs.Machine.{InTime}
use Rattle.be_journal.specs.Journal.{IsLegalFrom, replay_from}
use Rattle.be_journal.specs.declared.entries.Entry.{Entry}
use Rattle.be_plan.proofs.Answering.{found_all}
use Rattle.be_plan.proofs.Rising.{contains_of_is_in}
use Rattle.be_plan.proofs.Ways.{and_first, and_second, or_cases}
use Rattle.be_query.specs.Grammar.{Formula, Leaf, And, Or}
use Rattle.be_table.proofs.Frames.{longer_seen}
use Rattle.be_table.specs.History.{IsHistory, StartsWith}
use Rattle.be_table.specs.Rule.{entries}
use Rattle.be_table.specs.Seats.{pinned_number}
use Rattle.be_table.specs.Steps.{IsPass, met}
use Rattle.be_table.specs.declared.pass.Commit.{Commit}
use Rattle.be_table.specs.declared.pass.Knowledge.{Knowledge}
use Rattle.be_value.specs.declared.refusals.Refusal.{Refusal}
use Rattle.be_value.specs.declared.refusals.Refusal.TheVariants.{NotCovered, OutOfMemory}
use Rattle.be_value.specs.declared.values.Value.{Value}
use Rattle.be_volume.specs.Maps.{Attributes}
use Rattle.be_volume.specs.Query.{covered, has_index, holds, sat, scan, seen_in, sees}
use Rattle.be_volume.specs.Reading.{attribute}
use Rattle.be_volume.specs.declared.maps.Index.{Index}
use Rattle.be_volume.specs.Sound.{IsPaired, IsSound}
use Rattle.be_volume.specs.Volume.{State}
use Rattle.be_store.specs.History.{Learns, LocksOnly}
use Rattle.be_store.specs.Live.{IsAnswer, IsAnswerBut, IsLiveOf, LiveQuery, Refreshes, is_among, without}
use Rattle.be_store.specs.Marks.{IsMarkOf}
use Rattle.atomic_table.specs.Seated.{TableId}
use Rattle.be_table.specs.Place.{Opened}
use Rattle.be_table.specs.Setting.{Setting as Limits}
use Rattle.be_store.specs.declared.marks.Mark.{Mark}
use Rattle.be_store.specs.Named.{AreNamedAmong, IsNamedAmong, NamesAmong, node_named}
use Rattle.be_volume.specs.declared.ops.Done.{Done}
use Rattle.be_volume.specs.declared.ops.Op.{Op}
use Rattle.be_store.specs.Passes.{HasRead, IsPinnedTo, volume_pinned}
use Rattle.be_store.proofs.Among.{among_contains, among_filter, contains_among, same_members}
use Rattle.be_store.proofs.Applied.{entries_append}
use Rattle.be_store.proofs.Calls.{starts_trans}
use Rattle.be_store.proofs.Framed.{replay_same, same_answer}
use Rattle.be_store.proofs.Passes.{pinned_phase}
use Rattle.be_store.proofs.Remade.{front_sound, volume_is}

pub answer_is_scan : (s : State) (f : Formula) (list : List ℕ) → IsSound s → IsStrictlyIncreasing list → IsAnswer s f list → scan s f ≡ Ok list
answer_is_scan s f list sound up a =
    found_all s f list sound a.0 up (λ n h. sym (a.1 n) ∙ contains_among list n h) (λ n h. among_contains list n (a.1 n ∙ h))

-- A node with an attribute exists.
has_attribute : (s : State) (node : ℕ) (name : List ℕ) (value : Value) → attribute s node name ≡ Some value → fin.contains_key s.nodes node ≡ true
has_attribute s node name value h = by (fin.get s.nodes node) h
  where
    by : (found : Option Attributes) → option_and_then (λ attributes. fin.get attributes name) found ≡ Some value → is_some found ≡ true
    by None e = cc
    by (Some a) e = refl

-- A node at which an indexed name has a value exists.
is_node : (s : State) → IsSound s → (node : ℕ) (name : List ℕ) (value : Value) → has_index s name ≡ true → sees s node name ≡ Some value → fin.contains_key s.nodes node ≡ true
is_node s sound node name value indexed seen = by (fin.get s.indices name) refl
  where
    by : (i : Option Index) → fin.get s.indices name ≡ i → fin.contains_key s.nodes node ≡ true
    by None e = let no : false ≡ true = sym (ap (λ o. is_some o) e) ∙ indexed in cc
    by (Some index) e =
        let paired : fin.get index.pairs node ≡ Some value = sym (ap (λ o. seen_in o (attribute s node name) node) e) ∙ seen in
        let p : IsPaired s name index.kind node value = sound.pairs name index node value e paired in
        has_attribute s node name value p.attribute_is

-- A node that matches a covered query exists.
there : (s : State) → IsSound s → (f : Formula) → covered s f ≡ true → (n : ℕ) → sat s f n ≡ true → fin.contains_key s.nodes n ≡ true
there s sound (Leaf name op literal) rests n h = by (sees s n name) refl h
  where
    by : (o : Option Value) → sees s n name ≡ o → option_map_or (λ value. holds op value literal) o false ≡ true → fin.contains_key s.nodes n ≡ true
    by None e t = cc
    by (Some value) e t = is_node s sound n name value rests e
there s sound (And a b) rests n h =
    or_cases (covered s a) (covered s b) rests (fin.contains_key s.nodes n ≡ true) (λ r. there s sound a r n (and_first (sat s a n) (sat s b n) h)) (λ r. there s sound b r n (and_second (sat s a n) (sat s b n) h))
there s sound (Or a b) rests n h =
    or_cases (sat s a n) (sat s b n) h (fin.contains_key s.nodes n ≡ true) (there s sound a (and_first (covered s a) (covered s b) rests) n) (there s sound b (and_second (covered s a) (covered s b) rests) n)

-- The list of a scan is an answer.
pub scan_is_answer : (s : State) (f : Formula) (list : List ℕ) → IsSound s → scan s f ≡ Ok list → IsAnswer s f list
scan_is_answer s f list sound h = by (covered s f) refl h
  where
    list_of : List ℕ → Result (List ℕ) Refusal → List ℕ
    list_of d (Ok x) = x
    list_of d (Err e) = d

    is : (n : ℕ) (b : Bool) → sat s f n ≡ b → (b ≡ true → is_among (fin.keys s.nodes) n ≡ true) → (b && is_among (fin.keys s.nodes) n) ≡ sat s f n
    is n true e has = has refl ∙ sym e
    is n false e has = sym e

    by : (b : Bool) → covered s f ≡ b → (if b then Ok (filter (sat s f) (fin.keys s.nodes)) else Err NotCovered) ≡ Ok list → IsAnswer s f list
    by true e g =
        let same : filter (sat s f) (fin.keys s.nodes) ≡ list = ap (list_of list) g in (
          e,
          λ n.
              ap (λ l. is_among l n) (sym same) ∙ (among_filter (sat s f) (fin.keys s.nodes) n ∙ is n (sat s f n) refl (λ t.
              contains_among (fin.keys s.nodes) n (contains_of_is_in (fin.keys s.nodes) n (sym (fin.contains_key-keys s.nodes n) ∙ there s sound f e n t)))),
        )
    by false e g = cc

-- What an edit leaves in a list that is right except at some numbers. For a single number, l says whether the list had it, m
-- whether it is one of these numbers, and s whether the list should have it.
edited : (l m s : Bool) → (m ≡ false → l ≡ s) → ((l && not ((l && not s) && m)) || ((s && not l) && m)) ≡ s
edited true true true h = refl
edited true true false h = refl
edited false true true h = refl
edited false true false h = refl
edited true false true h = refl
edited true false false h = h refl
edited false false true h = h refl
edited false false false h = refl

came_so : (l m s : Bool) → (m ≡ false → l ≡ s) → ((s && not l) && m) ≡ (not l && s)
came_so true true true h = refl
came_so true true false h = refl
came_so false true true h = refl
came_so false true false h = refl
came_so true false true h = refl
came_so true false false h = refl
came_so false false true h = h refl
came_so false false false h = refl

went_so : (l m s : Bool) → (m ≡ false → l ≡ s) → ((l && not s) && m) ≡ (not s && l)
went_so true true true h = refl
went_so true true false h = refl
went_so false true true h = refl
went_so false true false h = refl
went_so true false true h = refl
went_so true false false h = sym (h refl)
went_so false false true h = refl
went_so false false false h = refl

module _ (s : State) (f : Formula) (nodes last new came went : List ℕ) (sound : IsSound s) (up_nodes : IsStrictlyIncreasing nodes) (up_last : IsStrictlyIncreasing last) (up_new : IsStrictlyIncreasing new)
    (but : IsAnswerBut nodes s f last)
    (came_is : came ≡ filter (λ n. sat s f n && not (is_among last n)) nodes)
    (went_is : went ≡ filter (λ n. is_among last n && not (sat s f n)) nodes)
    (new_is : (n : ℕ) → is_among new n ≡ ((is_among last n && not (is_among went n)) || is_among came n)) where
  among_came : (n : ℕ) → is_among came n ≡ ((sat s f n && not (is_among last n)) && is_among nodes n)
  among_came n = ap (λ l. is_among l n) came_is ∙ among_filter (λ m. sat s f m && not (is_among last m)) nodes n

  among_went : (n : ℕ) → is_among went n ≡ ((is_among last n && not (sat s f n)) && is_among nodes n)
  among_went n = ap (λ l. is_among l n) went_is ∙ among_filter (λ m. is_among last m && not (sat s f m)) nodes n

  pub is_answer : IsAnswer s f new
  is_answer = (
    but.0,
    λ n. new_is n
        ∙ (ap (λ b. (is_among last n && not b) || is_among came n) (among_went n)
        ∙ (ap (λ b. (is_among last n && not ((is_among last n && not (sat s f n)) && is_among nodes n)) || b) (among_came n)
        ∙ edited (is_among last n) (is_among nodes n) (sat s f n) (but.1 n))),
  )

  pub is_scan : scan s f ≡ Ok new
  is_scan = answer_is_scan s f new sound up_new is_answer

  rising_filter : (p : ℕ → Bool) (list is : List ℕ) → IsStrictlyIncreasing list → is ≡ filter p list → IsStrictlyIncreasing is
  rising_filter p list is up e = subst IsStrictlyIncreasing (sym e) (IsStrictlyIncreasing-filter p list up)

  pub is_came : came ≡ without new last
  is_came = same_members came (without new last) (rising_filter (λ n. sat s f n && not (is_among last n)) nodes came up_nodes came_is)
      (IsStrictlyIncreasing-filter (λ n. not (is_among last n)) new up_new)
      (λ n. among_came n ∙ (came_so (is_among last n) (is_among nodes n) (sat s f n) (but.1 n)
      ∙ sym (among_filter (λ m. not (is_among last m)) new n ∙ ap (λ b. not (is_among last n) && b) (is_answer.1 n))))

  pub is_went : went ≡ without last new
  is_went = same_members went (without last new) (rising_filter (λ n. is_among last n && not (sat s f n)) nodes went up_nodes went_is)
      (IsStrictlyIncreasing-filter (λ n. not (is_among new n)) last up_last)
      (λ n. among_went n ∙ (went_so (is_among last n) (is_among nodes n) (sat s f n) (but.1 n)
      ∙ sym (among_filter (λ m. not (is_among new m)) last n ∙ ap (λ b. not b && is_among last n) (is_answer.1 n))))

-- ## What the pass has learned in the meantime

pub learns_met : (a c : Knowledge) (log : List Commit) → StartsWith log a.seen → c ≡ met a log → Learns a c
learns_met a c log more is = subst (Learns a) (sym is) (record { more = more; mine = refl; pass = refl; limits = refl; pin = refl; moves = inl refl })

pub learns_after_met : (a b c : Knowledge) (log : List Commit) → StartsWith log a.seen → b ≡ met a log → Learns b c → Learns a c
learns_after_met a b c log more is learns =
    let h : Learns (met a log) c = subst (λ k. Learns k c) is learns in record {
      more = starts_trans a.seen log c.seen h.more more;
      mine = h.mine;
      pass = h.pass;
      limits = h.limits;
      pin = h.pin;
      moves = elim h.moves [
        | inl still ↦ inl still
        | inr locks ↦ (let l : LocksOnly (met a log) c = locks in inr (record { locked = l.locked; lock = l.lock; worked = l.worked; work = l.work; unlock = l.unlock }))
      ];
    }

pub learns_read : (a b c : Knowledge) → Learns a b → HasRead b c → Learns a c
learns_read a b c h read = subst (Learns a) (sym read) (record {
  more = h.more;
  mine = h.mine;
  pass = h.pass;
  limits = h.limits;
  pin = h.pin;
  moves = elim h.moves [
    | inl still ↦ inl still
    | inr locks ↦ (let l : LocksOnly a b = locks in inr (record { locked = l.locked; lock = l.lock; worked = l.worked; work = l.work; unlock = l.unlock }))
  ];
})

-- The number of a pin is that of a version which the pass has seen.
pub pin_seen : (a : Knowledge) (n : ℕ) → IsPass a → IsPinnedTo a n → n ≤ length a.seen
pin_seen a n pass pin =
    let p = pinned_phase a.phase n pin in
    let t : InTime (length a.seen) (Pinned p.0 n) = subst (InTime (length a.seen)) p.1 pass.pin in t.1

pub front_same : (log seen : List Commit) (n : ℕ) → StartsWith log seen → n ≤ length seen → take n (entries log) ≡ take n (entries seen)
front_same log seen n more le =
    ap (λ l. take n (entries l)) more.1 ∙ (ap (take n) (entries_append seen more.0)
    ∙ take-append-le n (entries seen) (entries more.0) (let long = length-map seen (λ (c : Commit). c.entry) in omega (arith, long, le)))

-- A pin keeps its volume.
pub same_volume : (a c : Knowledge) (n : ℕ) → IsPass a → IsPinnedTo a n → Learns a c → volume_pinned c ≡ volume_pinned a
same_volume a c n pass pin h =
    volume_is c n (ap pinned_number h.pin ∙ pin)
    ∙ (ap (λ (l : Limits). replay_from l.volume (take n (entries c.seen))) h.limits ∙ ap (replay_from a.limits.volume) (front_same c.seen a.seen n h.more (pin_seen a n pass pin)) ∙ sym (volume_is a n pin))

pub is_legal : (a : Knowledge) → IsPass a → IsLegalFrom a.limits.volume (entries a.seen)
unfolding IsHistory
is_legal a pass = pass.legal.0

-- A mark that was made at an earlier number, with what the entries since then name.
pub found_changes : (a b : Knowledge) (base : State) (front : List Commit) (nodes last : List ℕ) (f : Formula) (m n : ℕ) → IsPass a → IsPass b → base ≡ a.limits.volume → b.limits ≡ a.limits → IsPinnedTo a n → StartsWith b.seen a.seen → StartsWith b.seen front →
    m ≤ length front → m ≤ n → IsAnswer (replay_from base (take m (entries front))) f last → ((i : ℕ) (d : Entry) → m ≤ i → i < n → NamesAmong nodes (get_or (entries b.seen) i d)) →
    IsAnswerBut nodes (volume_pinned a) f last
found_changes a b base front nodes last f m n pass_a pass_b begun same_store pin more_a more_front short le answer named =
    let more : ℕ = n - m in
    let sum : m + more ≡ n = omega (arith, le) in
    let long = length-map b.seen (λ (c : Commit). c.entry) in
    let inside : n ≤ length a.seen = pin_seen a n pass_a pin in
    let reach = longer_seen b.seen a.seen more_a in
    let v : State = a.limits.volume in
    let legal : IsLegalFrom v (entries b.seen) = subst (λ (l : Limits). IsLegalFrom l.volume (entries b.seen)) same_store (is_legal b pass_b) in
    let same = replay_same nodes v (entries b.seen) m more legal (omega (arith, sum, long, inside, reach)) (λ i d low high. named i d low (omega (arith, high, sum))) in
    let before : replay_from v (take m (entries b.seen)) ≡ replay_from base (take m (entries front)) = ap (λ x. replay_from x (take m (entries b.seen))) (sym begun) ∙ ap (replay_from base) (front_same b.seen front m more_front short) in
    let after : replay_from v (take (m + more) (entries b.seen)) ≡ volume_pinned a =
    ap (λ k. replay_from v (take k (entries b.seen))) sum ∙ (ap (replay_from v) (front_same b.seen a.seen n more_a inside) ∙ sym (volume_is a n pin)) in
    subst (λ t. IsAnswerBut nodes t f last) after
    (same_answer nodes (replay_from v (take m (entries b.seen))) (replay_from v (take (m + more) (entries b.seen))) f last same
    (subst (λ t. IsAnswer t f last) (sym before) answer))

-- The pinned volume is sound.
pub pinned_sound : (a : Knowledge) (n : ℕ) → IsPass a → IsPinnedTo a n → IsSound (volume_pinned a)
pinned_sound a n pass pin = subst IsSound (sym (volume_is a n pin)) (front_sound a n pass)

-- The entry that the pass has seen at an index.
pub same_entry_at : (log seen : List Commit) (i : ℕ) (d : Entry) → StartsWith log seen → i < length seen → get_or (entries log) i d ≡ get_or (entries seen) i d
same_entry_at log seen i d more inside =
    let long = length-map seen (λ (c : Commit). c.entry) in
    ap (λ l. get_or (entries l) i d) more.1 ∙ (ap (λ l. get_or l i d) (entries_append seen more.0)
    ∙ get_or_append_left (entries seen) (entries more.0) d i (omega (arith, long, inside)))

-- A pass that is unchanged learns nothing.
pub learns_nothing : (a : Knowledge) → Learns a a
learns_nothing a = record { more = ([], sym (append-nil a.seen)); mine = refl; pass = refl; limits = refl; pin = refl; moves = inl refl }

-- A node that is named among some nodes is also named among more nodes.
pub named_more : (old new : List ℕ) (named : Option ℕ) → ((n : ℕ) → is_among old n ≡ true → is_among new n ≡ true) → option_map_or (is_among old) named false ≡ true → option_map_or (is_among new) named false ≡ true
named_more old new None more h = h
named_more old new (Some n) more h = more n h

pub names_more : (old new : List ℕ) (entry : Entry) → ((n : ℕ) → is_among old n ≡ true → is_among new n ≡ true) → NamesAmong old entry → NamesAmong new entry
names_more old new entry more named k op done lt this its = named_more old new (node_named op done) more (named k op done lt this its)

-- One more operation whose node is in a list.
pub step_named : (ops : List Op) (dones : List Done) (old new : List ℕ) (op : Op) (done : Done) (k : ℕ) → k < length ops → op ≡ get_or ops k op → done ≡ get_or dones k done → ((n : ℕ) → is_among old n ≡ true → is_among new n ≡ true) → IsNamedAmong new op done →
    ((i : ℕ) (o : Op) (d : Done) → i < k → o ≡ get_or ops i o → d ≡ get_or dones i d → IsNamedAmong old o d) → k < length dones → (i : ℕ) (o : Op) (d : Done) → i < k + 1 → o ≡ get_or ops i o → d ≡ get_or dones i d → IsNamedAmong new o d
step_named ops dones old new op done k inside this its keeps one before short i o d lt so its_so = elim (cases_lt i k) [
  | inl early ↦ named_more old new (node_named o d) keeps (before i o d early so its_so)
  | inr late ↦
      (let same : i ≡ k = omega (arith, lt, late) in
      let op_is : op ≡ o = this ∙ (get_or_default ops k op o inside ∙ (ap (λ j. get_or ops j o) (sym same) ∙ sym so)) in
      let done_is : done ≡ d = its ∙ (get_or_default dones k done d short ∙ (ap (λ j. get_or dones j d) (sym same) ∙ sym its_so)) in
      subst (λ x. IsNamedAmong new o x) done_is (subst (λ x. IsNamedAmong new x done) op_is one))
]

-- One more entry whose nodes are in a list.
pub named_so_far : (log : List Entry) (old new : List ℕ) (from k : ℕ) → ((n : ℕ) → is_among old n ≡ true → is_among new n ≡ true) → ((d : Entry) → NamesAmong new (get_or log k d)) →
    ((i : ℕ) (d : Entry) → from ≤ i → i < k → NamesAmong old (get_or log i d)) → (i : ℕ) (d : Entry) → from ≤ i → i < k + 1 → NamesAmong new (get_or log i d)
named_so_far log old new from k keeps one before i d low high = elim (cases_lt i k) [
  | inl early ↦ names_more old new (get_or log i d) keeps (before i d low early)
  | inr late ↦ (let same : k ≡ i = omega (arith, high, late) in subst (λ j. NamesAmong new (get_or log j d)) same (one d))
]

-- A store is given by its table and what it was opened with.
pub same_opened : (store : Opened) (id : TableId) (limits : Limits) → id ≡ store.id → limits ≡ store.limits → ◌≡◌ {A = Opened} (record { id = id; limits = limits }) store
same_opened store id limits e f = λ i. record { id = e i; limits = f i }

-- A mark whose witness has seen more.
pub mark_joined : (f : Formula) (last : List ℕ) (old new : Mark) → IsMarkOf f last old → new.number ≡ old.number → new.setting.value ≡ old.setting.value → new.witness.blank ≡ false → StartsWith new.witness.seen old.witness.seen → IsMarkOf f last new
mark_joined f last old new mark number begun fresh more =
    let long = longer_seen new.witness.seen old.witness.seen more in
    let here : old.number ≤ length new.witness.seen = omega (arith, mark.1, long) in (
      fresh,
      subst (λ n. n ≤ length new.witness.seen) (sym number) here,
      subst (λ (x : Limits × List Entry). IsAnswer (replay_from x.0.volume x.1) f last) (λ i. (sym begun i, (sym (front_same new.witness.seen old.witness.seen old.number more mark.1) ∙ ap (λ n. take n (entries new.witness.seen)) (sym number)) i)) mark.2,
    )

-- A mark that is made at a pin.
pub mark_at : (f : Formula) (last : List ℕ) (a : Knowledge) (mark : Mark) → mark.setting.value ≡ a.limits → IsPass a → IsPinnedTo a mark.number → mark.witness.blank ≡ false → mark.witness.seen ≡ a.seen → IsAnswer (volume_pinned a) f last → IsMarkOf f last mark
mark_at f last a mark begun pass pin fresh seen answer = (
  fresh,
  subst (λ l. mark.number ≤ length l) (sym seen) (pin_seen a mark.number pass pin),
  subst (λ s. IsAnswer s f last) (volume_is a mark.number pin ∙ ap (λ (x : Limits × List Commit). replay_from x.0.volume (take mark.number (entries x.1))) (λ i. (sym begun i, sym seen i))) answer,
)

-- A list that was updated at some nodes, whatever the values that were read are called.
pub changed_so : (v w : State) (f g : Formula) (nodes last list new came went gone put mid grown : List ℕ) → IsSound v → IsStrictlyIncreasing nodes → IsStrictlyIncreasing last → IsStrictlyIncreasing new → IsAnswerBut nodes v f last →
    w ≡ v → g ≡ f → list ≡ last → came ≡ filter (λ n. sat w g n && not (is_among list n)) nodes → went ≡ filter (λ n. is_among list n && not (sat w g n)) nodes → grown ≡ last → gone ≡ went → put ≡ came →
    ((n : ℕ) → is_among mid n ≡ (is_among grown n && not (is_among gone n))) → ((n : ℕ) → is_among new n ≡ (is_among mid n || is_among put n)) →
    IsAnswer v f new × (scan v f ≡ Ok new) × (came ≡ without new last) × (went ≡ without last new)
changed_so v w f g nodes last list new came went gone put mid grown sound up_nodes up_last up_new but volume query same came_is went_is kept gone_is put_is left both =
    let x : came ≡ filter (λ n. sat v f n && not (is_among last n)) nodes =
    came_is ∙ ap (λ (t : State × Formula × List ℕ). filter (λ n. sat t.0 t.1 n && not (is_among t.2 n)) nodes) (λ i. (volume i, query i, same i)) in
    let y : went ≡ filter (λ n. is_among last n && not (sat v f n)) nodes =
    went_is ∙ ap (λ (t : State × Formula × List ℕ). filter (λ n. is_among t.2 n && not (sat t.0 t.1 n)) nodes) (λ i. (volume i, query i, same i)) in
    let z : (n : ℕ) → is_among new n ≡ ((is_among last n && not (is_among went n)) || is_among came n) = λ n.
    both n ∙ (ap (λ b. b || is_among put n) (left n)
    ∙ ap (λ (t : List ℕ × List ℕ × List ℕ). (is_among t.0 n && not (is_among t.1 n)) || is_among t.2 n) (λ i. (kept i, gone_is i, put_is i))) in (
      is_answer v f nodes last new came went sound up_nodes up_last up_new but x y z,
      is_scan v f nodes last new came went sound up_nodes up_last up_new but x y z,
      is_came v f nodes last new came went sound up_nodes up_last up_new but x y z,
      is_went v f nodes last new came went sound up_nodes up_last up_new but x y z,
    )

pub on_ok : {T E : Type 0} (r : Result T E) (x : T) (P : Type 0) → r ≡ Ok x → OnOk r P → P
on_ok r x P e h = subst (λ q. OnOk q P) e h

-- ## A refresh in two steps: the pass learns, and then reads at its pin

pub pin_kept : (a b : Knowledge) (n : ℕ) → Learns a b → IsPinnedTo a n → IsPinnedTo b n
pin_kept a b n h pin = ap pinned_number h.pin ∙ pin

pub volume_read : (a b c : Knowledge) → volume_pinned b ≡ volume_pinned a → HasRead b c → volume_pinned c ≡ volume_pinned a
volume_read a b c same read = ap volume_pinned read ∙ same

-- What was found for the later live query and volume also holds for the earlier ones.
pub refreshed_so : (v w : State) (old mid new : LiveQuery) (came went : List ℕ) → w ≡ v → mid ≡ old → Refreshes w mid new came went → Refreshes v old new came went
refreshed_so v w old mid new came went volume same h =
    subst (λ l. Refreshes v l new came went) same (subst (λ s. Refreshes s mid new came went) volume h)

pub if_err : {T E : Type 0} (r : Result T E) (P Q : E → Type 0) → ((e : E) → P e → Q e) → IfErr r P → IfErr r Q
if_err (Ok x) P Q f p = tt
if_err (Err e) P Q f p = f e p

-- A refusal for the later live query and volume also holds for the earlier ones.
pub refused_so : (v w : State) (old mid new : LiveQuery) (e : Refusal) → w ≡ v → mid ≡ old → (new ≡ mid) × ((e ≡ OutOfMemory) ⊎ (scan w mid.query ≡ Err e)) → (new ≡ old) × ((e ≡ OutOfMemory) ⊎ (scan v old.query ≡ Err e))
refused_so v w old mid new e volume same h =
    subst (λ l. (new ≡ l) × ((e ≡ OutOfMemory) ⊎ (scan v l.query ≡ Err e))) same
    (subst (λ s. (new ≡ mid) × ((e ≡ OutOfMemory) ⊎ (scan s mid.query ≡ Err e))) volume h)

-- The nodes at which the answer can differ, for the query and the volume as they are now.
pub but_now : (ns ms : List ℕ) (v w : State) (old new : LiveQuery) → ms ≡ ns → w ≡ v → new ≡ old → IsAnswerBut ns v old.query old.last → IsAnswerBut ms w new.query new.last
but_now ns ms v w old new list volume same h =
    subst (λ l. IsAnswerBut l w new.query new.last) (sym list)
    (subst (λ s. IsAnswerBut ns s new.query new.last) (sym volume)
    (subst (λ l. IsAnswerBut ns v l.query l.last) (sym same) h))

-- The query belongs to the store, whether it was refreshed or is unchanged.
pub own_after : {T E : Type 0} (r : Result T E) (store : Opened) (old mid new : LiveQuery) (Q : E → Type 0) → IfOk r (λ _. IsLiveOf store new) → IfErr r (λ e. (new ≡ mid) × Q e) → mid ≡ old → IsLiveOf store old → IsLiveOf store new
own_after (Ok x) store old mid new Q ok err same own = ok
own_after (Err e) store old mid new Q ok err same own = subst (IsLiveOf store) (sym (err.0 ∙ same)) own

-- The operations and outcomes of an entry, as slices.
pub named_entry : (new : List ℕ) (ops : List Op) (dones : List Done) (entry : Entry) (log : List Entry) (i : ℕ) → ops ≡ entry.ops → dones ≡ entry.dones → entry ≡ get_or log i entry → i < length log →
    AreNamedAmong new ops dones → (d : Entry) → NamesAmong new (get_or log i d)
named_entry new ops dones entry log i ops_is outcomes_is its inside named d =
    subst (NamesAmong new) (its ∙ get_or_default log i entry d inside)
    (subst (λ l. AreNamedAmong new l entry.dones) ops_is (subst (λ l. AreNamedAmong new ops l) outcomes_is named))
