use Rattle.std.proofs.Common.{◌≡◌, ◌∙◌, false, List, ℕ, sym, ap, subst, arith, rules}
use Rattle.std.specs.Str.{IsUtf8}
use Rattle.be_value.specs.Name.{has_nul}
use Rattle.be_value.specs.declared.values.Kind.TheVariants as kinds
use Rattle.be_value.specs.declared.values.Value.TheVariants.{Cstr}
use Rattle.be_query.specs.Grammar.{Literal, Exact}
use Rattle.be_plan.specs.Narrow.{Represents}
use Rattle.be_plan.proofs.Integers.{text_ends, text_represents}
use Rattle.be_plan.proofs.narrowing.narrow_by_text.Goals as goal

pub narrow_by-requires : goal.narrow_by-requires
narrow_by-requires c =
    let words = c.as_bytes-bytes.result.now in
    let same : words ≡ c.args.words.now = c.as_bytes-bytes.ensures.value in
    let clean : has_nul words ≡ false = search rules in
    let U : List ℕ → Type 0 = IsUtf8 in
    let P : Literal → Type 0 = λ l. Represents l kinds.Cstr (Cstr words) in
    (subst P (ap (λ w. Exact w) same ∙ sym c.requires) (text_represents words (omega arith) clean (subst U (sym same) c.utf8.words)), text_ends words)
