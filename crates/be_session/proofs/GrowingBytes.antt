-- Bytes that grow at the end. A part that lay within them stays the same.
use Rattle.std.proofs.Common.{◌≡◌, ◌<◌, ◌≤◌, ◌+◌, ℕ, List, [], ◌∷◌, ◌++◌, arith, drop}
use Rattle.std.proofs.Common.{get_or, length, map, length-append, length-drop, refl, sym, ap, subst, take, ◌∙◌}
use Rattle.std.proofs.lemmas.List.{append_assoc, append-nil, drop-append-le, drop_at, map_more, take_more, take-append-le, take_all}
use Rattle.be_volume.specs.declared.ops.Op.{Op}
use Rattle.be_session.specs.Meaning.{HasOnly, IsMeant}
use Rattle.be_session.specs.Operations.{AreMeant, AreEncoded, ArePartsWithin, HasOnlyParts, HaveOnlyParts, IsMeantBy, all_parts, both_parts, part}
use Rattle.be_session.specs.declared.lists.Operation.{Operation}

pub part_kept : (bytes more : List ℕ) (at len : ℕ) → at + len ≤ length bytes → part (bytes ++ more) at len ≡ part bytes at len
part_kept bytes more at len fits =
    let low : at ≤ length bytes = omega arith in
    let rest : len ≤ length (drop at bytes) = omega (arith, length-drop at bytes) in
    ap (take len) (drop-append-le at bytes more low) ∙ take-append-le len (drop at bytes) more rest

-- Appended bytes are the part that begins at the old length, even after more bytes are appended.
pub part_end : (bytes name : List ℕ) → part (bytes ++ name) (length bytes) (length name) ≡ name
part_end bytes name = ap (take (length name)) (drop_at bytes name (length bytes) refl) ∙ take_all (length name) name (omega arith)

pub part_middle : (bytes name more : List ℕ) → part ((bytes ++ name) ++ more) (length bytes) (length name) ≡ name
part_middle bytes name more =
    let fits : length bytes + length name ≤ length (bytes ++ name) = omega (arith, length-append bytes name) in
    part_kept (bytes ++ name) more (length bytes) (length name) fits ∙ part_end bytes name

meant_kept : (o : Operation) (bytes more : List ℕ) (op : Op) → ArePartsWithin o (length bytes) → IsMeantBy o bytes op → IsMeantBy o (bytes ++ more) op
meant_kept o bytes more op within is =
    subst (λ name. IsMeant o.kind o.node name o.code o.number (part (bytes ++ more) o.value_at o.value_length) op)
    (sym (part_kept bytes more o.name_at o.name_length within.0))
    (subst (λ value. IsMeant o.kind o.node (part bytes o.name_at o.name_length) o.code o.number value op)
    (sym (part_kept bytes more o.value_at o.value_length within.1)) is)

are_meant_kept : (os : List Operation) (bytes more : List ℕ) (ops : List Op) → AreMeant os bytes ops → AreMeant os (bytes ++ more) ops
are_meant_kept [] bytes more [] are = tt
are_meant_kept [] bytes more (op ∷ ops) are = absurd are
are_meant_kept (o ∷ os) bytes more [] are = absurd are
are_meant_kept (o ∷ os) bytes more (op ∷ ops) are =
    let name : o.name_at + o.name_length ≤ length bytes = are.0.0.0 in
    let value : o.value_at + o.value_length ≤ length bytes = are.0.0.1 in (
      ((omega (arith, length-append bytes more), omega (arith, length-append bytes more)), meant_kept o bytes more op are.0.0 are.0.1),
      are_meant_kept os bytes more ops are.1,
    )

pub are_meant_more : (os : List Operation) (o : Operation) (bytes : List ℕ) (ops : List Op) (op : Op) → AreMeant os bytes ops
    → ArePartsWithin o (length bytes) → IsMeantBy o bytes op → AreMeant (os ++ o ∷ []) bytes (ops ++ op ∷ [])
are_meant_more [] o bytes [] op are within is = ((within, is), tt)
are_meant_more [] o bytes (p ∷ ops) op are within is = absurd are
are_meant_more (n ∷ os) o bytes [] op are within is = absurd are
are_meant_more (n ∷ os) o bytes (p ∷ ops) op are within is = (are.0, are_meant_more os o bytes ops op are.1 within is)

only_kept : (o : Operation) (bytes more : List ℕ) (op : Op) → ArePartsWithin o (length bytes) → HasOnlyParts o bytes op → HasOnlyParts o (bytes ++ more) op
only_kept o bytes more op within only =
    subst (λ name. HasOnly o.node name o.code o.number (part (bytes ++ more) o.value_at o.value_length) op)
    (sym (part_kept bytes more o.name_at o.name_length within.0))
    (subst (λ value. HasOnly o.node (part bytes o.name_at o.name_length) o.code o.number value op)
    (sym (part_kept bytes more o.value_at o.value_length within.1)) only)

are_only_kept : (os : List Operation) (bytes more : List ℕ) (ops : List Op) → AreMeant os bytes ops → HaveOnlyParts os bytes ops → HaveOnlyParts os (bytes ++ more) ops
are_only_kept [] bytes more ops are only = tt
are_only_kept (o ∷ os) bytes more [] are only = tt
are_only_kept (o ∷ os) bytes more (op ∷ ops) are only = (only_kept o bytes more op are.0.0 only.0, are_only_kept os bytes more ops are.1 only.1)

are_only_more : (os : List Operation) (o : Operation) (bytes : List ℕ) (ops : List Op) (op : Op) → AreMeant os bytes ops → HaveOnlyParts os bytes ops
    → HasOnlyParts o bytes op → HaveOnlyParts (os ++ o ∷ []) bytes (ops ++ op ∷ [])
are_only_more [] o bytes [] op are only is = (is, tt)
are_only_more [] o bytes (p ∷ ops) op are only is = absurd are
are_only_more (n ∷ os) o bytes [] op are only is = absurd are
are_only_more (n ∷ os) o bytes (p ∷ ops) op are only is = (only.0, are_only_more os o bytes ops op are.1 only.1 is)

parts_kept : (os : List Operation) (bytes more : List ℕ) (ops : List Op) → AreMeant os bytes ops → all_parts os (bytes ++ more) ≡ all_parts os bytes
parts_kept [] bytes more [] are = refl
parts_kept [] bytes more (op ∷ ops) are = absurd are
parts_kept (o ∷ os) bytes more [] are = absurd are
parts_kept (o ∷ os) bytes more (op ∷ ops) are =
    let later : List ℕ = all_parts os (bytes ++ more) in
    let name : List ℕ = part bytes o.name_at o.name_length in
    ap (λ n. (n ++ part (bytes ++ more) o.value_at o.value_length) ++ later) (part_kept bytes more o.name_at o.name_length are.0.0.0)
    ∙ (ap (λ v. (name ++ v) ++ later) (part_kept bytes more o.value_at o.value_length are.0.0.1)
    ∙ ap (λ ps. both_parts o bytes ++ ps) (parts_kept os bytes more ops are.1))

parts_more : (os : List Operation) (o : Operation) (bytes : List ℕ) → all_parts (os ++ o ∷ []) bytes ≡ all_parts os bytes ++ both_parts o bytes
parts_more [] o bytes = append-nil (both_parts o bytes)
parts_more (n ∷ os) o bytes =
    ap (λ ps. both_parts n bytes ++ ps) (parts_more os o bytes) ∙ sym (append_assoc (both_parts n bytes) (all_parts os bytes) (both_parts o bytes))

-- One more operation, whose parts are the appended bytes.
pub encoded_next : (os : List Operation) (o : Operation) (bytes all : List ℕ) (ops : List Op) (op : Op) → AreEncoded os bytes ops → all ≡ bytes ++ both_parts o all
    → ArePartsWithin o (length all) → IsMeantBy o all op → HasOnlyParts o all op → AreEncoded (os ++ o ∷ []) all (ops ++ op ∷ [])
encoded_next os o bytes all ops op are grown within is only =
    let more : List ℕ = both_parts o all in
    let meant : AreMeant os all ops = subst (λ bs. AreMeant os bs ops) (sym grown) (are_meant_kept os bytes more ops are.0) in
    let before : HaveOnlyParts os all ops = subst (λ bs. HaveOnlyParts os bs ops) (sym grown) (are_only_kept os bytes more ops are.0 are.2) in (
      are_meant_more os o all ops op meant within is,
      parts_more os o all
          ∙ (ap (λ ps. ps ++ more) (ap (all_parts os) grown ∙ (parts_kept os bytes more ops are.0 ∙ are.1)) ∙ sym grown),
      are_only_more os o all ops op meant before only,
    )

-- One more item of a list that is encoded as operations.
pub listed_next : {A : Type 0} (f : A → Op) (xs : List A) (i : ℕ) (d : A) (os later : List Operation) (o : Operation) (bytes all : List ℕ) → i < length xs
    → AreEncoded os bytes (map f (take i xs)) → all ≡ bytes ++ both_parts o all → ArePartsWithin o (length all) → IsMeantBy o all (f (get_or xs i d))
    → HasOnlyParts o all (f (get_or xs i d)) → later ≡ os ++ o ∷ []
    → AreEncoded later all (map f (take (i + 1) xs))
listed_next f xs i d os later o bytes all low are grown within is only pushed =
    subst (λ ns. AreEncoded ns all (map f (take (i + 1) xs))) (sym pushed)
    (subst (λ ops. AreEncoded (os ++ o ∷ []) all ops) (sym (map_more f xs i d low))
    (encoded_next os o bytes all (map f (take i xs)) (f (get_or xs i d)) are grown within is only))

-- One more operation of a list that is encoded as it is.
pub encoded_more : (ops : List Op) (i : ℕ) (d : Op) (os later : List Operation) (o : Operation) (bytes all : List ℕ) → i < length ops
    → AreEncoded os bytes (take i ops) → all ≡ bytes ++ both_parts o all → ArePartsWithin o (length all) → IsMeantBy o all (get_or ops i d)
    → HasOnlyParts o all (get_or ops i d) → later ≡ os ++ o ∷ []
    → AreEncoded later all (take (i + 1) ops)
encoded_more ops i d os later o bytes all low are grown within is only pushed =
    subst (λ ns. AreEncoded ns all (take (i + 1) ops)) (sym pushed)
    (subst (λ xs. AreEncoded (os ++ o ∷ []) all xs) (sym (take_more ops i d low))
    (encoded_next os o bytes all (take i ops) (get_or ops i d) are grown within is only))

-- Parts that encode an operation, at their places in the bytes.
pub meant_by : (o : Operation) (bytes name value : List ℕ) (op : Op) → part bytes o.name_at o.name_length ≡ name → part bytes o.value_at o.value_length ≡ value
    → IsMeant o.kind o.node name o.code o.number value op → IsMeantBy o bytes op
meant_by o bytes name value op named valued is =
    subst (λ n. IsMeant o.kind o.node n o.code o.number (part bytes o.value_at o.value_length) op) (sym named)
    (subst (λ v. IsMeant o.kind o.node name o.code o.number v op) (sym valued) is)
