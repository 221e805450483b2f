-- The end of a script, after its last LF.
use Rattle.std.proofs.Common.{◌≡◌, ℕ, List, [], ◌∷◌, length, refl, sym, subst, arith}
use Rattle.std.specs.declared.option.Option.{Option}
use Rattle.std.specs.Str.{is_utf8, chars}
use Rattle.be_script_language.specs.Reply.{none}
use Rattle.be_script_language.specs.Request.{Request, silent, asked}
use Rattle.be_script_runner.specs.Output.{Session, Serves, IsOutputTo}
use Rattle.be_script_runner.specs.Run.{Wrote, HasReplied}
use Rattle.be_script_runner.specs.Store.{Store}
use Rattle.be_script_runner.proofs.ReplyLemmas.{serves_at_once}
use Rattle.be_script_runner.proofs.RunLemmas.{finish, none_written}

-- an empty line requests nothing
pub nothing_asked : asked [] ≡ silent
unfolding is_utf8 chars
nothing_asked = refl

-- no text follows the last LF
pub finish_empty : (store : Store) (script left : List ℕ) (s : Session) (old new : Option (List ℕ)) → length left ≡ 0 → Wrote old new (HasReplied store script s left) →
    Wrote old new (IsOutputTo store script s.store)
finish_empty store script [] s old new empty w =
    finish store script [] s s old new new refl w (record {
      out = [];
      appended = none_written new;
      is = (none, subst (λ (q : Request). Serves s q none s) (sym nothing_asked) (serves_at_once s s silent none refl), refl);
    })
finish_empty store script (c ∷ left) s old new empty w = absurd (omega (arith, empty))
