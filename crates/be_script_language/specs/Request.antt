-- What a line of a script requests.
use Rattle.std.specs.Prelude.{ℕ, Bool, false, is_none, ◌||◌, List, [], ◌∷◌, nat_eq, Some, None}
use Rattle.std.specs.Prelude.{codes, if◌then◌else◌, unwrap_or, take, drop, ◌==◌}
use Rattle.std.specs.List.{list_all, slice_split}
use Rattle.std.specs.Option.{option_and_then, option_map}
use Rattle.std.specs.Result.{result_map_both}
use Rattle.std.specs.Str.{is_utf8, chars}
use Rattle.std.specs.Str.Lines.{strip_carriage_return}
use Rattle.std.specs.declared.option.Option.{Option}
use Rattle.std.specs.declared.result.Result.{Result}
use Rattle.std.specs.declared.result.Result.TheVariants.{Ok, Err}
use Rattle.be_value.specs.Name.{name_from}
use Rattle.be_value.specs.Number.{word_in}
use Rattle.be_value.specs.declared.refusals.Refusal.{Refusal}
use Rattle.be_value.specs.declared.values.Value.{Value}
use Rattle.be_volume.specs.declared.ops.Op.{Op}
use Rattle.be_volume.specs.declared.ops.Op.TheVariants.{New, Drop, Set, Unset, MkIndex, RmIndex}
use Rattle.be_script_language.specs.declared.commands.Command.{Command}
use Rattle.be_script_language.specs.declared.commands.Command.TheVariants as commands
use Rattle.be_script_language.specs.declared.pages.Paging.{Paging}
use Rattle.be_script_language.specs.Page.{asked_in}
use Rattle.be_script_language.specs.Values.{same, kind_in, value_in}
use Rattle.be_script_language.specs.Words.{is_blank, is_empty, skip, end_of_word, bytes_of}
use Rattle.be_script_language.specs.Words.{first_word, one_word, two_words, text_in}

-- What a line requests. If no store accepts the name or value, the request contains the error
-- instead.
pub data Request : Type 0 where
  silent : Request
  malformed : Request
  write : Result Op Refusal → Request
  query : List ℕ → Request
  page : Result Paging Refusal → List ℕ → Request
  explain : List ℕ → Request
  get : ℕ → Result (List ℕ) Refusal → Request
  attrs : ℕ → Request
  indices : Request
  pin : Request
  unpin : Request
  live : List ℕ → Request
  refresh : Request
  begin : Request
  commit : Request
  abort : Request

-- an operation on a name, or the name's error
abbrev pub named : (List ℕ → Op) → List ℕ → Result Op Refusal
named op name = result_map_both op (λ e. e) (name_from name)

-- the operation that sets an attribute, or the name's error, or the value's error if the name is
-- valid
abbrev pub set_op : ℕ → Result (List ℕ) Refusal → Result Value Refusal → Result Op Refusal
set_op node (Ok name) (Ok value) = Ok (Set node name value)
set_op node (Ok name) (Err e) = Err e
set_op node (Err e) value = Err e

-- `set N NAME KIND VALUE`
abbrev pub set_from : List ℕ → List ℕ → List ℕ → List ℕ → Option Request
set_from node name kind value =
    option_and_then (λ n. option_and_then
    (λ k. option_map (λ v. write (set_op n (name_from name) v)) (value_in k value))
    (kind_in kind)) (word_in node)

-- what each command requests, given the text after its word

abbrev pub bare : Request → List ℕ → Option Request
bare request rest = if is_empty rest then Some request else None

abbrev pub set_in : List ℕ → Option Request
set_in rest = option_and_then (λ node. option_and_then
    (λ name. option_and_then (λ last. set_from node.0 name.0 last.0 last.1)
    (two_words name.1)) (first_word node.1)) (first_word rest)

-- the number that the only word encodes
abbrev pub only_number_in : List ℕ → Option ℕ
only_number_in rest = option_and_then word_in (one_word rest)

abbrev pub drop_in : List ℕ → Option Request
drop_in rest = option_map (λ node. write (Ok (Drop node))) (only_number_in rest)

-- a number and a word of any form, if the text has exactly these two words
abbrev pub number_and_word_in : List ℕ → Option (ℕ × List ℕ)
number_and_word_in rest = option_and_then
    (λ words. option_map (λ n. (n, words.1)) (word_in words.0)) (two_words rest)

abbrev pub unset_in : List ℕ → Option Request
unset_in rest = option_map (λ words. write (named (λ name. Unset words.0 name) words.1))
    (number_and_word_in rest)

abbrev pub mkindex_in : List ℕ → Option Request
mkindex_in rest = option_and_then (λ words. option_map
    (λ kind. write (named (λ name. MkIndex name kind) words.0)) (kind_in words.1)) (two_words rest)

abbrev pub rmindex_in : List ℕ → Option Request
rmindex_in rest = option_map (λ name. write (named RmIndex name)) (one_word rest)

abbrev pub get_in : List ℕ → Option Request
get_in rest = option_map (λ words. get words.0 (name_from words.1)) (number_and_word_in rest)

abbrev pub attrs_in : List ℕ → Option Request
attrs_in rest = option_map attrs (only_number_in rest)

abbrev pub page_in : List ℕ → Option Request
page_in rest = option_map (λ asked. page asked.0 asked.1) (asked_in rest)

-- the command with this name
abbrev pub command_named : List ℕ → Option Command
command_named word =
    if same word (codes "new") then Some commands.New
    else if same word (codes "drop") then Some commands.Drop
    else if same word (codes "set") then Some commands.Set
    else if same word (codes "unset") then Some commands.Unset
    else if same word (codes "mkindex") then Some commands.MkIndex
    else if same word (codes "rmindex") then Some commands.RmIndex
    else if same word (codes "query") then Some commands.Query
    else if same word (codes "page") then Some commands.Page
    else if same word (codes "explain") then Some commands.Explain
    else if same word (codes "get") then Some commands.Get
    else if same word (codes "attrs") then Some commands.Attrs
    else if same word (codes "indices") then Some commands.Indices
    else if same word (codes "pin") then Some commands.Pin
    else if same word (codes "unpin") then Some commands.Unpin
    else if same word (codes "live") then Some commands.Live
    else if same word (codes "refresh") then Some commands.Refresh
    else if same word (codes "begin") then Some commands.Begin
    else if same word (codes "commit") then Some commands.Commit
    else if same word (codes "abort") then Some commands.Abort
    else None

-- what a command and the text after it request
abbrev pub command_in : Command → List ℕ → Option Request
command_in commands.New rest = bare (write (Ok New)) rest
command_in commands.Drop rest = drop_in rest
command_in commands.Set rest = set_in rest
command_in commands.Unset rest = unset_in rest
command_in commands.MkIndex rest = mkindex_in rest
command_in commands.RmIndex rest = rmindex_in rest
command_in commands.Query rest = Some (query (text_in rest))
command_in commands.Page rest = page_in rest
command_in commands.Explain rest = Some (explain (text_in rest))
command_in commands.Get rest = get_in rest
command_in commands.Attrs rest = attrs_in rest
command_in commands.Indices rest = bare indices rest
command_in commands.Pin rest = bare pin rest
command_in commands.Unpin rest = bare unpin rest
command_in commands.Live rest = Some (live (text_in rest))
command_in commands.Refresh rest = bare refresh rest
command_in commands.Begin rest = bare begin rest
command_in commands.Commit rest = bare commit rest
command_in commands.Abort rest = bare abort rest

-- what a line with a command requests; the line is given from its first word onward
abbrev pub command_of : List ℕ → Request
command_of line =
    unwrap_or (option_and_then (λ command. command_in command (drop (end_of_word line) line))
    (command_named (bytes_of (take (end_of_word line) line)))) malformed

-- the line's first byte is '#'
abbrev pub is_comment : List ℕ → Bool
is_comment [] = false
is_comment (c ∷ line) = nat_eq c 35

-- the bytes as text, if they are valid UTF-8
abbrev pub utf8 : List ℕ → Option (List ℕ)
utf8 bytes = if is_utf8 bytes then Some bytes else None

-- what a line requests; the line is given without its LF or CR
abbrev pub request_in : List ℕ → Request
request_in line =
    if is_none (utf8 line) then malformed
    else if list_all is_blank line || is_comment line then silent
    else command_of (skip (chars line))

-- a script's lines, without their LFs
abbrev pub lines_of : List ℕ → List (List ℕ)
lines_of script = slice_split (λ c. c == 10) script

-- what a line of a script requests
abbrev pub asked : List ℕ → Request
asked line = request_in (strip_carriage_return line)
