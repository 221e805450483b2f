-- The text of ways.
use Rattle.std.specs.Prelude.{◌≡◌, ℕ, List, [], ◌∷◌, ◌++◌, codes, decimal, if◌then◌else◌, nat_eq}
use Rattle.be_journal.specs.Text.{quoted}
use Rattle.be_ways.specs.declared.way.Way.{Way}

-- The word for this many keys.
abbrev pub keys_word : ℕ → List ℕ
keys_word count = if nat_eq count 1 then codes "key" else codes "keys"

-- The line of a way, whose range has this text.
abbrev pub line_with : List ℕ → Way → List ℕ
line_with range way = quoted way.name ++ (codes "  " ++ (range ++ (codes "  about "
    ++ (decimal way.about ++ (codes " " ++ (keys_word way.about ++ (codes ", "
    ++ (decimal way.walked ++ codes " walked\n"))))))))

-- The text consists of one line for each way, in the same order.
abbrev pub AreLines : List Way → List ℕ → Type 0
AreLines [] text = text ≡ []
AreLines (way ∷ ways) text = (range : List ℕ) × (rest : List ℕ)
    × (text ≡ line_with range way ++ rest) × AreLines ways rest
