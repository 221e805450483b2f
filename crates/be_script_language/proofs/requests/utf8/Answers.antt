use Rattle.std.proofs.Common.{◌≡◌, ℕ, List, Bool, true, false, Some, None, if◌then◌else◌, sym, ap, ◌∙◌, refl}
use Rattle.std.specs.Str.{is_utf8}
use Rattle.std.proofs.lemmas.Str.{is_utf8-from_IsUtf8, IsUtf8-from_is_utf8}
use Rattle.be_script_language.proofs.requests.utf8.Goals as goal

pub returns-in-Ok : goal.returns-in-Ok
returns-in-Ok c = ap Some c.in-Ok.ensures.cases.0 ∙ ap (λ b. if b then Some c.args.bytes.now else None) (sym (is_utf8-from_IsUtf8 c.args.bytes.now c.in-Ok.ensures.cases.1))

-- bytes that aren't valid UTF-8 fail the test
fails : (b : Bool) (bytes : List ℕ) → is_utf8 bytes ≡ b → ((b ≡ true) → ⊥) → None ≡ (if b then Some bytes else None)
fails true bytes e failed = absurd (failed refl)
fails false bytes e failed = refl

pub returns-in-Err : goal.returns-in-Err
returns-in-Err c = fails (is_utf8 c.args.bytes.now) c.args.bytes.now refl (λ (e : is_utf8 c.args.bytes.now ≡ true). c.in-Err.ensures.cases.0 (IsUtf8-from_is_utf8 c.args.bytes.now e))
