use Rattle.std.proofs.Common.{◌≡◌, ◌++◌, ℕ, List, Option, Some, None, Bor, ◌∙◌, sym}
use Rattle.std.specs.Prelude.{IfSome, encode_utf8, encode_utf8_all}
use Rattle.be_pattern.specs.Match.{Part}
use Rattle.be_pattern.specs.Canonical.{canonical}
use Rattle.be_byte_pattern.specs.Runs.{BeginsWith}
use Rattle.be_byte_pattern.proofs.CanonicalStarts.{marked_begins, plain_begins}
use Rattle.be_byte_pattern.proofs.reading.split_literal.Goals as goal

marked_some : (text middle : List ℕ) (mark : ℕ) (r : Option (ℕ × Bor (List ℕ))) → mark ≡ 92 → text ≡ encode_utf8 mark ++ middle
    → IfSome r (λ p. middle ≡ encode_utf8 p.0 ++ p.1.now)
    → IfSome r (λ p. (ps : List Part) → text ≡ encode_utf8_all (canonical ps) → BeginsWith ps p.0 p.1.now)
marked_some text middle mark None is split next = tt
marked_some text middle mark (Some p) is split next = marked_begins text middle p.1.now mark p.0 is split next

pub returns-then-char-eq92-clause-literal : goal.returns-then-char-eq92-clause-literal
returns-then-char-eq92-clause-literal c =
    marked_some c.args.text.now c.in_ok-char.rest.now c.in_ok-char.char c.split_first_char-then-char-eq92.result c.if-char-eq92.true c.in_ok-char.ensures.split c.split_first_char-then-char-eq92.ensures.split

pub returns-clause-literal : goal.returns-clause-literal
returns-clause-literal c = plain_begins c.args.text.now c.in_ok-char.rest.now c.in_ok-char.char c.in_ok-char.ensures.split (sym c.begins_wildcard.ensures ∙ c.if-begins_wildcard.false) c.if-char-eq92.false
