use Rattle.std.proofs.Common.{◌≡◌, ◌∙◌, ◌++◌, Bool, List, ℕ, true, false, refl, sym, ap}
use Rattle.std.specs.Ordering.{is_lt}
use Rattle.be_volume.specs.Maps.{name_cmp}
use Rattle.be_plan.proofs.ranges.Range.raise_to.Goals as goal

-- The low end is either the bound, or unchanged.
raised : (low bound new k : List ℕ) (fits : Bool) → (fits ≡ true → new ≡ bound) → (fits ≡ false → new ≡ low) → (is_lt (name_cmp k bound) ≡ false → is_lt (name_cmp k low) ≡ false) →
    is_lt (name_cmp k new) ≡ false → is_lt (name_cmp k low) ≡ false
raised low bound new k true puts stays up h = up (sym (ap (λ l. is_lt (name_cmp k l)) (puts refl)) ∙ h)
raised low bound new k false puts stays up h = sym (ap (λ l. is_lt (name_cmp k l)) (stays refl)) ∙ h

kept : (low bound new k : List ℕ) (fits : Bool) → (fits ≡ true → new ≡ bound) → (fits ≡ false → new ≡ low) → is_lt (name_cmp k bound) ≡ false →
    is_lt (name_cmp k low) ≡ false → is_lt (name_cmp k new) ≡ false
kept low bound new k true puts stays above h = ap (λ l. is_lt (name_cmp k l)) (puts refl) ∙ above
kept low bound new k false puts stays above h = ap (λ l. is_lt (name_cmp k l)) (stays refl) ∙ h

pub returns-then-starts_at-clause-leaves : goal.returns-then-starts_at-clause-leaves
returns-then-starts_at-clause-leaves c = λ e k w. c.starts_at.ensures.starts c.if-starts_at.true k w.from_low

pub returns-else-starts_at-clause-within : goal.returns-else-starts_at-clause-within
returns-else-starts_at-clause-within c = λ k w. record {
  from_low = raised c.args.self.now.low.items (c.args.front.now ++ c.args.end.now) c.put.new.bytes.items k c.put.result c.put.ensures.fits
      (λ e. ap (λ b. b.items) (c.put.ensures.not e)) (c.starts_at.ensures.reaches c.if-starts_at.false k) w.from_low;
  to_high = w.to_high;
}

pub returns-else-starts_at-clause-keeps : goal.returns-else-starts_at-clause-keeps
returns-else-starts_at-clause-keeps c = λ k h w. record {
  from_low = kept c.args.self.now.low.items (c.args.front.now ++ c.args.end.now) c.put.new.bytes.items k c.put.result c.put.ensures.fits
      (λ e. ap (λ b. b.items) (c.put.ensures.not e)) h w.from_low;
  to_high = w.to_high;
}

pub returns-else-starts_at-clause-leaves : goal.returns-else-starts_at-clause-leaves
returns-else-starts_at-clause-leaves c = λ e k w. sym (ap (λ l. is_lt (name_cmp k l)) (c.put.ensures.fits e)) ∙ w.from_low
