-- Lists of blocks: the entry with a given index, and one more entry in the last block.
use Rattle.std.proofs.Common.{◌≡◌, ◌<◌, ◌≤◌, ℕ, zero, suc, ◌+◌, ◌-◌, true, false, nat_le, List, [], ◌∷◌, ◌++◌, length, take, drop, get_or, set, Some, refl, sym, ap, subst, ◌∙◌, append_assoc, append-nil, length-append, arith}
use Rattle.std.specs.Prelude.{slice_get}
use Rattle.std.specs.List.{flat_map}
use Rattle.std.specs.Option.{option_map_or}
use Rattle.std.specs.declared.option.Option.{Option}
use Rattle.std.proofs.lemmas.Bool.Decides.{nat_tests}
use Rattle.std.proofs.lemmas.Grind.{flat_map-append}
use Rattle.std.proofs.lemmas.List.{take_more, take_all, take-append-drop}
use Rattle.std.proofs.lemmas.List.Concat.{flat_map-cons, get_or-flat_map}
use Rattle.std.proofs.lemmas.List.Elements.{All-push, All-set}
use Rattle.std.proofs.lemmas.Option.{slice_get-get_or}
use Rattle.be_entry_bytes.specs.Encoding.{most_bytes}
use Rattle.be_journal.specs.Blocks.{Filled, entries_of, has_room, AreFilled}
use Rattle.be_journal.specs.declared.entries.Entry.{Entry}

one : (b : Filled) → entries_of (b ∷ []) ≡ b.entries
one b = flat_map-cons (λ (x : Filled). x.entries) b [] ∙ append-nil b.entries

-- the entries of the blocks before a position, followed by those of the block there
pub entries_more : (blocks : List Filled) (k : ℕ) (b : Filled) → k < length blocks → b ≡ get_or blocks k b →
    length (entries_of (take (k + 1) blocks)) ≡ length (entries_of (take k blocks)) + length b.entries
entries_more blocks k b short is =
    ap (λ (bs : List Filled). length (entries_of bs)) (take_more blocks k b short ∙ ap (λ (x : Filled). take k blocks ++ x ∷ []) (sym is))
    ∙ ap length (flat_map-append (λ (x : Filled). x.entries) (take k blocks) (b ∷ []) ∙ ap (λ (es : List Entry). entries_of (take k blocks) ++ es) (one b))
    ∙ length-append (entries_of (take k blocks)) b.entries

-- an entry of the whole list is an entry of its block
pub same_entry : (blocks : List Filled) (k : ℕ) (b : Filled) (i left : ℕ) → k < length blocks → b ≡ get_or blocks k b → i ≡ length (entries_of (take k blocks)) + left → left < length b.entries →
    (e : Entry) → get_or b.entries left e ≡ get_or (entries_of blocks) i e
same_entry blocks k b i left short is place within e =
    let here : left < length (get_or blocks k b).entries = subst (λ (x : Filled). left < length x.entries) is within in
    ap (λ (x : Filled). get_or x.entries left e) is
    ∙ sym (get_or-flat_map (λ (x : Filled). x.entries) blocks k left b e short here)
    ∙ ap (λ n. get_or (entries_of blocks) n e) (sym place)

-- there is no entry after the last block
pub past_all : (blocks : List Filled) (k i left : ℕ) → length blocks ≤ k → i ≡ length (entries_of (take k blocks)) + left → i < length (entries_of blocks) → ⊥
past_all blocks k i left past place within =
    let all : length (entries_of (take k blocks)) ≡ length (entries_of blocks) = ap (λ (bs : List Filled). length (entries_of bs)) (take_all k blocks past) in
    absurd (omega (arith, all, place, within))

-- one more entry in the last block
pub pushed_last : (blocks : List Filled) (k : ℕ) (b b2 : Filled) (e : Entry) → length blocks ≡ k + 1 → b ≡ get_or blocks k b → b2.entries ≡ b.entries ++ e ∷ [] →
    entries_of (set blocks k b2) ≡ entries_of blocks ++ e ∷ []
pushed_last [] k b b2 e len is more = absurd (omega (arith, len))
pushed_last (x ∷ []) k b b2 e len is more =
    let first : 0 ≡ k = omega (arith, len) in
    subst (λ n. entries_of (set (x ∷ []) n b2) ≡ entries_of (x ∷ []) ++ e ∷ []) first
    (one b2 ∙ more ∙ ap (λ (y : Filled). y.entries ++ e ∷ []) (is ∙ ap (λ n. get_or (x ∷ []) n b) (sym first)) ∙ ap (λ (es : List Entry). es ++ e ∷ []) (sym (one x)))
pushed_last (x ∷ y ∷ blocks) zero b b2 e len is more = absurd (omega (arith, len))
pushed_last (x ∷ y ∷ blocks) (suc k) b b2 e len is more =
    let rest = pushed_last (y ∷ blocks) k b b2 e (omega (arith, len)) is more in
    flat_map-cons (λ (z : Filled). z.entries) x (set (y ∷ blocks) k b2)
    ∙ ap (λ (es : List Entry). x.entries ++ es) rest
    ∙ sym (append_assoc x.entries (entries_of (y ∷ blocks)) (e ∷ []))
    ∙ ap (λ (es : List Entry). es ++ e ∷ []) (sym (flat_map-cons (λ (z : Filled). z.entries) x (y ∷ blocks)))

pub filled_last : (blocks : List Filled) (k : ℕ) (b b2 : Filled) (e : Entry) → b2.entries ≡ b.entries ++ e ∷ [] → AreFilled blocks → AreFilled (set blocks k b2)
filled_last blocks k b b2 e more are =
    All-set (λ (x : Filled). 0 < length x.entries) blocks k b2 (omega (arith, ap length more, length-append b.entries (e ∷ []))) are

-- one more entry in a new block
pub pushed_new : (blocks : List Filled) (b b2 : Filled) (e : Entry) → b.entries ≡ [] → b2.entries ≡ b.entries ++ e ∷ [] → entries_of (blocks ++ b2 ∷ []) ≡ entries_of blocks ++ e ∷ []
pushed_new blocks b b2 e empty more =
    flat_map-append (λ (x : Filled). x.entries) blocks (b2 ∷ []) ∙ ap (λ (es : List Entry). entries_of blocks ++ es) (one b2 ∙ more ∙ ap (λ (es : List Entry). es ++ e ∷ []) empty)

pub filled_new : (blocks : List Filled) (b b2 : Filled) (e : Entry) → b2.entries ≡ b.entries ++ e ∷ [] → AreFilled blocks → AreFilled (blocks ++ b2 ∷ [])
filled_new blocks b b2 e more are = All-push (λ (x : Filled). 0 < length x.entries) blocks b2 are (omega (arith, ap length more, length-append b.entries (e ∷ [])))

room_of : (n m : ℕ) → nat_le n m ≡ true → n ≤ m
room_of n m h = grind (arith, nat_tests, h)

-- if the last block has room, there is a last block
pub some_last : (count : ℕ) (blocks : List Filled) → has_room count blocks ≡ true → 0 < length blocks
some_last count [] h = cc
some_last count (b ∷ blocks) h = omega arith

pub last_room : (count : ℕ) (blocks : List Filled) (k : ℕ) (b : Filled) → has_room count blocks ≡ true → length blocks ≡ k + 1 → b ≡ get_or blocks k b → most_bytes count ≤ b.room
last_room count blocks k b h len is =
    let last : length blocks - 1 ≡ k = omega (arith, len) in
    let at : slice_get blocks (length blocks - 1) ≡ Some b = ap (slice_get blocks) last ∙ slice_get-get_or blocks k b (omega (arith, len)) ∙ ap (λ (x : Filled). Some x) (sym is) in
    room_of (most_bytes count) b.room (sym (ap (λ (o : Option Filled). option_map_or (λ (x : Filled). nat_le (most_bytes count) x.room) o false) at) ∙ h)

-- a block has no more entries than all the blocks together
pub few_of : (blocks : List Filled) (k : ℕ) (b : Filled) → k < length blocks → b ≡ get_or blocks k b → length b.entries ≤ length (entries_of blocks)
few_of blocks k b short is =
    let more = entries_more blocks k b short is in
    let whole : length (entries_of blocks) ≡ length (entries_of (take (k + 1) blocks)) + length (entries_of (drop (k + 1) blocks)) =
    ap (λ (bs : List Filled). length (entries_of bs)) (sym (take-append-drop (k + 1) blocks))
    ∙ ap length (flat_map-append (λ (x : Filled). x.entries) (take (k + 1) blocks) (drop (k + 1) blocks))
    ∙ length-append (entries_of (take (k + 1) blocks)) (entries_of (drop (k + 1) blocks)) in
    omega (arith, more, whole)
