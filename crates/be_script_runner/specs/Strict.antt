-- The replies of a run that ends at the first refused line.
use Rattle.std.specs.Prelude.{◌≡◌, ℕ, ◌+◌, Bool, true, false, List, [], ◌∷◌, ◌++◌, Some, None}
use Rattle.std.specs.Prelude.{length, if◌then◌else◌}
use Rattle.std.specs.Option.{option_map}
use Rattle.std.specs.String.{string_bytes}
use Rattle.std.specs.declared.option.Option.{Option}
use Rattle.be_journal.specs.declared.entries.Entry.{Entry}
use Rattle.be_script_language.specs.Reply.{Reply, none, bad_line, ok, node, nodes, paged, value}
use Rattle.be_script_language.specs.Reply.{attributes, kinds, cover, pinned_at, already_pinned}
use Rattle.be_script_language.specs.Reply.{not_pinned, updates, no_live_query, queued, full_batch}
use Rattle.be_script_language.specs.Reply.{empty_batch, already_begun, not_begun, committed}
use Rattle.be_script_language.specs.Reply.{refused, text_of}
use Rattle.be_script_language.specs.Request.{asked, lines_of}
use Rattle.be_table.specs.Versions.{CanEncodeEach}
use Rattle.be_table.specs.declared.limits.Limits.{Limits as StoreLimits}
use Rattle.be_volume.specs.Volume.{empty}
use Rattle.be_script_runner.specs.Output.{Session, Serves, opening}
use Rattle.be_script_runner.specs.Store.{Store, start}
use Rattle.be_script_runner.specs.declared.strict_runs.RefusedLine.{RefusedLine}

-- the reply says that its line wasn't carried out
abbrev pub is_refusal : Reply → Bool
is_refusal none = false
is_refusal bad_line = true
is_refusal ok = false
is_refusal (node n) = false
is_refusal (nodes ns) = false
is_refusal (paged p) = false
is_refusal (value v) = false
is_refusal (attributes list) = false
is_refusal (kinds list) = false
is_refusal (cover text) = false
is_refusal (pinned_at n) = false
is_refusal already_pinned = true
is_refusal not_pinned = true
is_refusal (updates created removed) = false
is_refusal no_live_query = true
is_refusal queued = false
is_refusal full_batch = true
is_refusal empty_batch = true
is_refusal already_begun = true
is_refusal not_begun = true
is_refusal (committed n dones) = false
is_refusal (refused r) = true

-- a refused line, as its number and its reply's text
abbrev pub line_refused : RefusedLine → ℕ × List ℕ
line_refused line = (line.number, string_bytes line.reply)

-- a refused line's number and reply, if there is a reply
abbrev pub numbered : ℕ → Option (List ℕ) → Option (ℕ × List ℕ)
numbered number None = None
numbered number (Some text) = Some (number, text)

-- A line's possible reply as text, the session after the line, and the text again if it says that
-- the line was refused.
abbrev pub Judged : Session → List ℕ → Session → Option (List ℕ) → List ℕ → Type 0
Judged s line after found out = (reply : Reply) × Serves s (asked line) reply after
    × (out ≡ text_of reply) × (found ≡ (if is_refusal reply then Some out else None))

-- possible replies to several lines, as text, none of which says that its line was refused, and the
-- session after them
abbrev pub Accepts : Session → List (List ℕ) → Session → List ℕ → Type 0
Accepts s [] last out = (last ≡ s) × (out ≡ [])
Accepts s (line ∷ lines) last out =
    (after : Session) × (reply : List ℕ) × (rest : List ℕ) × Judged s line after None reply
    × Accepts after lines last rest × (out ≡ reply ++ rest)

-- the script's first lines were accepted, and the next line, which has this number, was refused
-- with this text
pub record StopsAt (store : Store) (script : List ℕ) (number : ℕ) (text : List ℕ) (new : Store)
    (out : List ℕ) : Type 0 where
  pub lines : List (List ℕ)
  pub line : List ℕ
  pub rest : List (List ℕ)
  pub is : lines_of script ≡ lines ++ line ∷ rest
  pub number_is : number ≡ length lines + 1
  pub before : Session
  pub front : List ℕ
  pub accepted : Accepts (opening store) lines before front
  pub after : Session
  pub judged : Judged before line after (Some text) text
  pub out_is : out ≡ front ++ text
  pub leaves : after.store ≡ new

-- The replies to a script up to its first refused line, or to the whole script if no line is
-- refused. `found` has the refused line's number and reply.
abbrev pub IsStrictOutput : Store → List ℕ → Option (ℕ × List ℕ) → Store → List ℕ → Type 0
IsStrictOutput store script None new out = (last : Session)
    × Accepts (opening store) (lines_of script) last out × (last.store ≡ new)
IsStrictOutput store script (Some found) new out = StopsAt store script found.0 found.1 new out

-- What such a run writes on an empty store with one pass, and the journal that it leaves. After
-- each of its writes, the volume fits into the number of pages that the limits allow.
pub record IsStrictRun (limits : StoreLimits) (script : List ℕ) (found : Option (ℕ × List ℕ))
    (journal : List Entry) (out : List ℕ) : Type 0 where
  pub last : Store
  pub output : IsStrictOutput (start limits.commits) script found last out
  pub journal_is : journal ≡ last.journal
  pub volumes : CanEncodeEach limits.pages empty journal

-- The text contains the replies to all of a script's lines except those that are left, and none of
-- the answered lines was refused. `s` is the session after the answered lines, and `number` is the
-- number of the next line.
pub record HasAccepted (store : Store) (script : List ℕ) (s : Session) (left : List ℕ) (number : ℕ)
    (out : List ℕ) : Type 0 where
  pub lines : List (List ℕ)
  pub is : lines_of script ≡ lines ++ lines_of left
  pub number_is : number ≡ length lines + 1
  pub output : Accepts (opening store) lines s out
