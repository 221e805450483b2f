-- Replies and their text.
use Rattle.std.specs.Prelude.{ℕ, Bool, List, [], ◌∷◌, ◌++◌, Some, None, codes, length}
use Rattle.std.specs.Prelude.{if◌then◌else◌}
use Rattle.std.specs.List.{flat_map}
use Rattle.std.specs.Fmt.{decimal}
use Rattle.std.specs.declared.option.Option.{Option}
use Rattle.be_value.specs.Refusal.{printed}
use Rattle.be_value.specs.Value.{kind_of, kind_name}
use Rattle.be_value.specs.declared.refusals.Refusal.{Refusal}
use Rattle.be_value.specs.declared.values.Kind.{Kind}
use Rattle.be_value.specs.declared.values.Value.{Value}
use Rattle.be_volume.specs.declared.ops.Done.{Done}
use Rattle.be_journal.specs.Text.{quoted, value_text, done_text}
use Rattle.be_script_language.specs.Page.{PageFound}

-- the reply to a line; a blank line or comment has the reply `none`
pub data Reply : Type 0 where
  none : Reply
  bad_line : Reply
  ok : Reply
  node : ℕ → Reply
  nodes : List ℕ → Reply
  paged : PageFound → Reply
  value : Option Value → Reply
  attributes : List (List ℕ × Value) → Reply
  kinds : List (List ℕ × Kind) → Reply
  cover : List ℕ → Reply
  pinned_at : ℕ → Reply
  already_pinned : Reply
  not_pinned : Reply
  updates : List ℕ → List ℕ → Reply
  no_live_query : Reply
  queued : Reply
  full_batch : Reply
  empty_batch : Reply
  already_begun : Reply
  not_begun : Reply
  committed : ℕ → List Done → Reply
  refused : Refusal → Reply

-- for each number, a space and the number
abbrev pub numbers : List ℕ → List ℕ
numbers ns = flat_map (λ n. 32 ∷ decimal n) ns

-- a line with the word, and then each of the numbers after a space
abbrev pub numbers_line : List ℕ → List ℕ → List ℕ
numbers_line word ns = (word ++ numbers ns) ++ codes "\n"

-- `KIND VALUE`
abbrev pub kind_and_value : Value → List ℕ
kind_and_value v = kind_name (kind_of v) ++ (codes " " ++ value_text v)

abbrev pub more_word : Bool → List ℕ
more_word more = if more then codes "more" else codes "end"

-- ` after KIND VALUE NODE`, the position at which the next page begins; the empty text if the page
-- is empty
abbrev pub after_text : Option (Value × ℕ) → List ℕ
after_text None = []
after_text (Some pair) = codes " after "
    ++ (kind_and_value pair.0 ++ (codes " " ++ decimal pair.1))

-- a line with the nodes, then a line that says whether more nodes follow and where the next page
-- begins
abbrev pub page_text : PageFound → List ℕ
page_text p = ((numbers_line (codes "nodes") p.nodes ++ more_word p.more) ++ after_text p.last)
    ++ codes "\n"

abbrev pub value_line : Option Value → List ℕ
value_line None = codes "none\n"
value_line (Some v) = kind_and_value v ++ codes "\n"

-- `"NAME" TEXT`
abbrev pub name_line : List ℕ → List ℕ → List ℕ
name_line name text = quoted name ++ (codes " " ++ (text ++ codes "\n"))

-- `"NAME" KIND VALUE`
abbrev pub attribute_line : List ℕ × Value → List ℕ
attribute_line a = name_line a.0 (kind_and_value a.1)

-- `"NAME" KIND`
abbrev pub kind_line : List ℕ × Kind → List ℕ
kind_line i = name_line i.0 (kind_name i.1)

abbrev pub done_line : Done → List ℕ
done_line done = done_text done ++ codes "\n"

-- a line with a word and the number of elements, followed by a line for each element
abbrev pub listed : {A : Type 0} → List ℕ → ℕ → (A → List ℕ) → List A → List ℕ
listed word n line_of xs = (word ++ (decimal n ++ codes "\n")) ++ flat_map line_of xs

-- the text of a reply, including its LFs
abbrev pub text_of : Reply → List ℕ
text_of none = []
text_of bad_line = codes "bad line\n"
text_of ok = codes "ok\n"
text_of (node n) = codes "node " ++ (decimal n ++ codes "\n")
text_of (nodes ns) = numbers_line (codes "nodes") ns
text_of (paged p) = page_text p
text_of (value v) = value_line v
text_of (attributes list) = listed (codes "attrs ") (length list) attribute_line list
text_of (kinds list) = listed (codes "indices ") (length list) kind_line list
text_of (cover text) = text ++ codes "\n"
text_of (pinned_at n) = codes "pin " ++ (decimal n ++ codes "\n")
text_of already_pinned = codes "already pinned\n"
text_of not_pinned = codes "not pinned\n"
text_of (updates created removed) = numbers_line (codes "created") created
    ++ numbers_line (codes "removed") removed
text_of no_live_query = codes "no live query\n"
text_of queued = codes "queued\n"
text_of full_batch = codes "full batch\n"
text_of empty_batch = codes "empty batch\n"
text_of already_begun = codes "already begun\n"
text_of not_begun = codes "not begun\n"
text_of (committed n dones) = listed (codes "commit ") n done_line dones
text_of (refused r) = printed r ++ codes "\n"
