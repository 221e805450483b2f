-- The test that a walk over an index applies to each key.
use Rattle.std.specs.Prelude.{ℕ, Bool, true, false, List}
use Rattle.be_query.specs.Grammar.{Leaf}
use Rattle.be_volume.specs.Query.{holds_of_text, sat}
use Rattle.be_volume.specs.Volume.{State}
use Rattle.be_plan.specs.Marks.{is_marked}
use Rattle.be_plan.specs.Texts.{text_in}
use Rattle.be_plan.specs.declared.keytests.KeyTest.{KeyTest}
use Rattle.be_plan.specs.declared.keytests.KeyTest.TheVariants.{Marked, Text}

-- Whether a key passes the test, which examines either its string or its node.
abbrev pub passes_key : KeyTest → (key : List ℕ) → (node : ℕ) → Bool
passes_key (Text test) key node = holds_of_text test.now.0 (text_in key) test.now.1
passes_key (Marked marks) key node = is_marked marks.now node

-- Whether a node passes the test, given what the index of that name contains for it.
abbrev pub passes_node : State → List ℕ → KeyTest → ℕ → Bool
passes_node s name (Text test) node = sat s (Leaf name test.now.0 test.now.1) node
passes_node s name (Marked marks) node = is_marked marks.now node

-- The test reads the strings in keys.
abbrev pub reads_texts : KeyTest → Bool
reads_texts (Text test) = true
reads_texts (Marked marks) = false
