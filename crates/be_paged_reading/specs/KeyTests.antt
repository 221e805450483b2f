-- Tests of the keys of an index, and the nodes of the keys that pass.
use Rattle.std.specs.Prelude.{ℕ, ◌≤◌, List, [], ◌∷◌, All, length, if◌then◌else◌}
use Rattle.std.specs.List.{flat_map}
use Rattle.be_plan.specs.KeyTests.{passes_key}
use Rattle.be_plan.specs.declared.keytests.KeyTest.{KeyTest}
use Rattle.be_plan.specs.declared.keytests.KeyTest.TheVariants.{Marked, Text}
use Rattle.be_tree_reading.specs.Pair.{Pair}
use Rattle.be_tree_reading.specs.Range.{number_of}
use Rattle.be_tree_reading.specs.Walk.{on_way}
use Rattle.be_tree_reading.specs.declared.way.Way.{Way}
use Rattle.be_paged_reading.specs.Texts.{IsTextKey}

-- The key contains what the test reads.
abbrev pub IsTestable : KeyTest → List ℕ → Type 0
IsTestable (Text test) key = IsTextKey key
IsTestable (Marked marks) key = 8 ≤ length key

abbrev pub AreTestable : KeyTest → List Pair → Type 0
AreTestable test xs = All (λ x. IsTestable test x.key) xs

-- The node of the key if the key passes the test.
abbrev pub node_if : KeyTest → Pair → List ℕ
node_if test x = if passes_key test x.key (number_of x.key) then number_of x.key ∷ [] else []

-- The nodes of the keys that pass the test.
abbrev pub nodes_passing : KeyTest → List Pair → List ℕ
nodes_passing test xs = flat_map (node_if test) xs

-- The nodes of the keys that pass the test, up to the end of a way.
abbrev pub passing_on : KeyTest → Way → List Pair → List ℕ
passing_on test way xs = nodes_passing test (on_way way xs)
