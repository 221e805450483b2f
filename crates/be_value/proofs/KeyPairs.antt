-- Each key belongs to one pair.
use Rattle.std.proofs.Common.{◌≡◌, ℕ, ◌<◌, ◌^◌, List, refl, sym, ap, ◌∙◌, IsTrue, true≢false}
use Rattle.std.proofs.lemmas.Cmp.{nat_list_cmp_total}
use Rattle.std.proofs.lemmas.Map.Lookups.{exact_bytes, exact_signed, exact_unsigned}
use Rattle.std.specs.Ordering.{nat_cmp, ordering_then, ordering_reverse, is_lt}
use Rattle.std.specs.declared.cmp.Ordering.{Ordering}
use Rattle.std.specs.declared.cmp.Ordering.TheVariants.{Less, Equal, Greater}
use Rattle.std.specs.Cmp.Lexicographic.{slice_cmp}
use Rattle.be_value.specs.Key.{key, IsValue, pair_cmp}
use Rattle.be_value.specs.Value.{kind_of, is_indexable, value_cmp}
use Rattle.be_value.specs.declared.values.Value.{Value}
use Rattle.be_value.specs.declared.values.Value.TheVariants.{Cstr, Long, Llng, Mims, Rawt, Ulng, Ullg}
use Rattle.be_value.proofs.KeyOrder.{key_order_of}

both_equal : (a b : Ordering) → ordering_then a b ≡ Equal → (a ≡ Equal) × (b ≡ Equal)
both_equal Less b e = absurd (true≢false (ap is_lt e))
both_equal Equal b e = (refl, e)
both_equal Greater b e = cc

its_reverse : (o : Ordering) → o ≡ ordering_reverse o → o ≡ Equal
its_reverse Less e = cc
its_reverse Equal e = refl
its_reverse Greater e = cc

tied_with_itself : (xs : List ℕ) → slice_cmp nat_cmp xs xs ≡ Equal
tied_with_itself xs = its_reverse _ (nat_list_cmp_total.antisymm xs xs)

-- values of one kind that compare as equal are equal
same_value : (v w : Value) → kind_of v ≡ kind_of w → value_cmp v w ≡ Equal → v ≡ w
same_value (Cstr a) (Cstr b) k e = ap Cstr (exact_bytes a b e)
same_value (Long a) (Long b) k e = ap Long (exact_signed a b e)
same_value (Llng a) (Llng b) k e = ap Llng (exact_signed a b e)
same_value (Mims a) (Mims b) k e = ap Mims (exact_bytes a b e)
same_value (Rawt a) (Rawt b) k e = ap Rawt (exact_bytes a b e)
same_value (Ulng a) (Ulng b) k e = ap Ulng (exact_unsigned a b e)
same_value (Ullg a) (Ullg b) k e = ap Ullg (exact_unsigned a b e)
same_value (Cstr a) w k e = cc
same_value (Long a) w k e = cc
same_value (Llng a) w k e = cc
same_value (Mims a) w k e = cc
same_value (Rawt a) w k e = cc
same_value (Ulng a) w k e = cc
same_value (Ullg a) w k e = cc

pub one_pair_of : (v w : Value) (m n : ℕ) → IsValue v → IsValue w → m < 2 ^ 64 → n < 2 ^ 64 →
    IsTrue (is_indexable (kind_of v)) → kind_of v ≡ kind_of w → key v m ≡ key w n → (v ≡ w) × (m ≡ n)
one_pair_of v w m n p q h g i k e =
    let tied : pair_cmp v m w n ≡ Equal =
    sym (key_order_of v w m n p q h g i k) ∙ ap (λ a. slice_cmp nat_cmp a (key w n)) e ∙ tied_with_itself (key w n) in
    let both : (value_cmp v w ≡ Equal) × (nat_cmp m n ≡ Equal) = both_equal (value_cmp v w) (nat_cmp m n) tied in
    (same_value v w k both.0, exact_unsigned m n both.1)
