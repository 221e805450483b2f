use Rattle.std.proofs.Common.{◌≡◌, ◌∷◌, [], ◌++◌, ◌<◌, length, List, ℕ, false, append-nil, ap, sym, subst, ◌∙◌, arith, rules}
use Rattle.std.specs.Ordering.{is_lt, is_gt}
use Rattle.std.specs.Str.{IsUtf8}
use Rattle.be_pattern.specs.Canonical.{is_plain}
use Rattle.be_value.specs.Key.{key}
use Rattle.be_value.specs.Name.{has_nul}
use Rattle.be_value.specs.declared.values.Value.TheVariants.{Cstr}
use Rattle.be_volume.specs.Maps.{name_cmp}
use Rattle.be_plan.specs.Narrow.{limit}
use Rattle.be_plan.proofs.Fronts.{front_decides}
use Rattle.be_plan.proofs.Prefixes.{front_bytes, not_shorter, key_not_below, key_not_above}
use Rattle.be_plan.proofs.narrowing.narrow_by_pattern.Goals as goal

pub returns-then-front-gt255-clause-keeps : goal.returns-then-front-gt255-clause-keeps
returns-then-front-gt255-clause-keeps c = λ text n utf8 short matched within.
    let long : 255 < length (front_bytes c.args.pattern.now) = search rules in
    absurd (omega (arith, not_shorter c.args.pattern.now text n utf8 matched))

pub returns-then-not-raise_to-clause-keeps : goal.returns-then-not-raise_to-clause-keeps
returns-then-not-raise_to-clause-keeps c = λ text n utf8 short matched w.
    let parts = c.args.pattern.now in
    let front : c.as_bytes-front.result.now ≡ front_bytes parts = c.as_bytes-front.ensures.value ∙ c.prefix.ensures in
    c.raise_to.ensures.keeps (key (Cstr text) n) (key_not_below parts text n utf8 matched _ (ap (λ b. b ++ []) front)) w

pub returns-then-not-lower_to-clause-keeps : goal.returns-then-not-lower_to-clause-keeps
returns-then-not-lower_to-clause-keeps c = λ text n utf8 short matched w.
    let parts = c.args.pattern.now in
    let front : c.as_bytes-front.result.now ≡ front_bytes parts = c.as_bytes-front.ensures.value ∙ c.prefix.ensures in
    c.lower_to.ensures.keeps (key (Cstr text) n)
    (key_not_above parts text n utf8 matched _ (ap (λ b. b ++ c.limit_of.result ∷ []) front ∙ ap (λ l. front_bytes parts ++ l ∷ []) c.limit_of.ensures))
    (c.raise_to.ensures.keeps (key (Cstr text) n) (key_not_below parts text n utf8 matched _ (ap (λ b. b ++ []) front)) w)

pub returns-then-is_prefix-clause-keeps : goal.returns-then-is_prefix-clause-keeps
returns-then-is_prefix-clause-keeps c = λ text n utf8 short matched w.
    let parts = c.args.pattern.now in
    let front : c.as_bytes-front.result.now ≡ front_bytes parts = c.as_bytes-front.ensures.value ∙ c.prefix.ensures in
    c.lower_to.ensures.keeps (key (Cstr text) n)
    (key_not_above parts text n utf8 matched _ (ap (λ b. b ++ c.limit_of.result ∷ []) front ∙ ap (λ l. front_bytes parts ++ l ∷ []) c.limit_of.ensures))
    (c.raise_to.ensures.keeps (key (Cstr text) n) (key_not_below parts text n utf8 matched _ (ap (λ b. b ++ []) front)) w)

pub returns-else-is_prefix-clause-keeps : goal.returns-else-is_prefix-clause-keeps
returns-else-is_prefix-clause-keeps c = λ text n utf8 short matched w.
    let parts = c.args.pattern.now in
    let front : c.as_bytes-front.result.now ≡ front_bytes parts = c.as_bytes-front.ensures.value ∙ c.prefix.ensures in
    c.lower_to.ensures.keeps (key (Cstr text) n)
    (key_not_above parts text n utf8 matched _ (ap (λ b. b ++ c.limit_of.result ∷ []) front ∙ ap (λ l. front_bytes parts ++ l ∷ []) c.limit_of.ensures))
    (c.raise_to.ensures.keeps (key (Cstr text) n) (key_not_below parts text n utf8 matched _ (ap (λ b. b ++ []) front)) w)

pub returns-then-is_prefix-clause-decides : goal.returns-then-is_prefix-clause-decides
returns-then-is_prefix-clause-decides c = λ h text n utf8 clean w.
    let parts = c.args.pattern.now in
    let front : c.as_bytes-front.result.now ≡ front_bytes parts = c.as_bytes-front.ensures.value ∙ c.prefix.ensures in
    let bare : has_nul c.as_bytes-front.result.now ≡ false = search rules in
    let U : List ℕ → Type 0 = IsUtf8 in
    let low = c.raise_to.ensures.leaves c.if-not-raise_to.false (key (Cstr text) n) (c.lower_to.ensures.within (key (Cstr text) n) w) in
    let high = c.lower_to.ensures.leaves c.if-not-lower_to.false (key (Cstr text) n) w in
    front_decides parts text n (subst U c.prefix.ensures c.prefix.utf8) (sym (ap has_nul front) ∙ bare) clean
    (sym (ap (λ l. is_lt (name_cmp (key (Cstr text) n) l)) (append-nil c.as_bytes-front.result.now ∙ front)) ∙ low)
    (sym (ap (λ l. is_gt (name_cmp (key (Cstr text) n) (l ++ limit (is_plain parts) ∷ []))) front)
    ∙ sym (ap (λ b. is_gt (name_cmp (key (Cstr text) n) (c.as_bytes-front.result.now ++ b ∷ []))) c.limit_of.ensures) ∙ high)
    (c.is_prefix.ensures.decides c.if-is_prefix.true)
