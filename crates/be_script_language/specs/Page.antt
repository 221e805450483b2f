-- What a line `page` requests, and what it finds.
use Rattle.std.specs.Prelude.{ℕ, Bool, true, false, ◌&&◌, List, nat_eq, Some, None, codes}
use Rattle.std.specs.Prelude.{if◌then◌else◌}
use Rattle.std.specs.Option.{option_and_then, option_map, option_map_or}
use Rattle.std.specs.Result.{result_map_both}
use Rattle.std.specs.declared.option.Option.{Option}
use Rattle.std.specs.declared.result.Result.{Result}
use Rattle.std.specs.declared.result.Result.TheVariants.{Ok, Err}
use Rattle.be_value.specs.Key.{key}
use Rattle.be_value.specs.Name.{name_from}
use Rattle.be_value.specs.Number.{word_in}
use Rattle.be_value.specs.Value.{is_indexable, kind_number, kind_of}
use Rattle.be_value.specs.declared.refusals.Refusal.{Refusal}
use Rattle.be_value.specs.declared.values.Kind.{Kind}
use Rattle.be_value.specs.declared.values.Value.{Value}
use Rattle.be_script_language.specs.declared.pages.Page.{Page}
use Rattle.be_script_language.specs.declared.pages.Paging.{Paging}
use Rattle.be_script_language.specs.Values.{same, kind_in, value_in}
use Rattle.be_script_language.specs.Words.{first_word, text_in}

-- the text after the first word, if that word is the expected one
abbrev pub past : List ℕ → List ℕ → Option (List ℕ)
past expected text = option_and_then
    (λ first. if same first.0 expected then Some first.1 else None) (first_word text)

-- `by NAME`, and the text after it
abbrev pub name_in : List ℕ → Option (List ℕ × List ℕ)
name_in text = option_and_then first_word (past (codes "by") text)

-- whether `descending` comes first, and the text left to read
abbrev pub direction_in : List ℕ → Bool × List ℕ
direction_in text = option_map_or (λ rest. (true, rest)) (past (codes "descending") text)
    (false, text)

-- the value and node after which a page begins, or the value's error; for the first page there is
-- neither a value nor a node
abbrev pub Position : Type 0
Position = Result (Option (Value × ℕ)) Refusal

-- the value and node that three words encode
abbrev pub pair_from : List ℕ → List ℕ → List ℕ → Option Position
pair_from kind value node = option_and_then
    (λ k. option_and_then
    (λ v. option_map (λ n. result_map_both (λ value. Some (value, n)) (λ e. e) v) (word_in node))
    (value_in k value)) (kind_in kind)

-- `KIND VALUE NODE`, and the text after it
abbrev pub pair_in : List ℕ → Option (Position × List ℕ)
pair_in text = option_and_then
    (λ kind. option_and_then
    (λ value. option_and_then
    (λ node. option_map (λ pair. (pair, node.1)) (pair_from kind.0 value.0 node.0))
    (first_word value.1)) (first_word kind.1)) (first_word text)

-- `after KIND VALUE NODE`, if `after` comes first, and the text left to read
abbrev pub after_in : List ℕ → Option (Position × List ℕ)
after_in text = option_map_or pair_in (past (codes "after") text) (Some (Ok None, text))

-- the number that a word encodes, unless it is 0
abbrev pub most_from : List ℕ → Option ℕ
most_from word = option_and_then (λ n. if nat_eq n 0 then None else Some n) (word_in word)

-- `limit N`, and the text after it
abbrev pub limit_in : List ℕ → Option (ℕ × List ℕ)
limit_in text = option_and_then
    (λ rest. option_and_then (λ word. option_map (λ n. (n, word.1)) (most_from word.0))
    (first_word rest)) (past (codes "limit") text)

-- the requested page, or the name's error, or the value's error if the name is valid
abbrev pub paging_from : Result (List ℕ) Refusal → Bool → Position → ℕ → Result Paging Refusal
paging_from (Ok name) descending (Ok after) most = Ok (record {
  by = name;
  descending = descending;
  after = after;
  most = most;
})
paging_from (Ok name) descending (Err e) most = Err e
paging_from (Err e) descending after most = Err e

-- the page that the words after `page` request, and the query's text
abbrev pub asked_in : List ℕ → Option (Result Paging Refusal × List ℕ)
asked_in text = option_and_then
    (λ name. option_and_then
    (λ after. option_map
    (λ limit. (
      paging_from (name_from name.0) (direction_in name.1).0 after.0 limit.0,
      text_in limit.1,
    )) (limit_in after.1)) (after_in (direction_in name.1).1)) (name_in text)

-- the key of this value and node
abbrev pub key_at : Value × ℕ → List ℕ
key_at pair = key pair.0 pair.1

-- Whether a page may begin after this value, given the kind of the index that gives the order: the
-- value must be of that kind. The first page may always begin.
abbrev pub may_begin : Option Kind → Option (Value × ℕ) → Bool
may_begin kind None = true
may_begin None (Some pair) = false
may_begin (Some kind) (Some pair) = is_indexable (kind_of pair.0)
    && nat_eq (kind_number (kind_of pair.0)) (kind_number kind)

-- What a line finds: nodes in the index's order, whether more nodes follow, and the value and
-- number of the last node.
pub record PageFound : Type 0 where
  pub nodes : List ℕ
  pub more : Bool
  pub last : Option (Value × ℕ)

-- the code's page as a page of the definitions
abbrev pub page_found : Page → PageFound
page_found page = record { nodes = page.nodes.items; more = page.more; last = page.last }
