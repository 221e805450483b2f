-- The trace of a table: the moves that its machine has made so far.
use Rattle.std.specs.Prelude.{◌≡◌, ◌≢◌, ◌==◌, if◌then◌else◌, ℕ, Bool, false, List, [], ◌∷◌, ◌++◌}
use Rattle.std.specs.Prelude.{Some, IsTrue}
use Rattle.std.specs.List.{list_any}
use Rattle.be_core.specs.Machine.{World, Writer, first_state, MayLook, MayAnnounce, MayLookAgain}
use Rattle.be_core.specs.Machine.{MayUnpin, MayLock, MayScan, MayFill, MayPublish, MayUnlock}
use Rattle.be_core.specs.Machine.{after_look, after_announce, after_look_again, after_unpin}
use Rattle.be_core.specs.Machine.{after_lock, after_scan, after_fill, after_publish, after_unlock}
use Rattle.be_core.specs.Machine.{after_return}
use Rattle.be_table.specs.Setting.{Setting as Limits}
use Rattle.be_table.specs.declared.pass.Knowledge.{Knowledge}
use Rattle.be_table.specs.declared.pass.Move.{Move}
use Rattle.be_table.specs.declared.pass.Move.TheVariants.{Look, Announce, LookAgain, Unpin, Lock}
use Rattle.be_table.specs.declared.pass.Move.TheVariants.{Scan, Fill, Publish, Unlock, Return}

-- the pass that makes the move
abbrev pub mover : Move → ℕ
mover (Look k) = k
mover (Announce k) = k
mover (LookAgain k) = k
mover (Unpin k) = k
mover (Lock k) = k
mover (Scan k j) = k
mover (Fill k p i word) = k
mover (Publish k page given) = k
mover (Unlock k) = k
mover (Return k p) = k

-- the pass holds the lock, and has taken the page
abbrev pub MayReturn : World → ℕ → ℕ → Type 0
MayReturn w k p = ((h : Writer) × (w.writer ≡ Some h) × (h.pass ≡ k)) × IsTrue (w.taken p)

abbrev pub MayMove : World → Move → Type 0
MayMove w (Look k) = MayLook w k
MayMove w (Announce k) = MayAnnounce w k
MayMove w (LookAgain k) = MayLookAgain w k
MayMove w (Unpin k) = MayUnpin w k
MayMove w (Lock k) = MayLock w k
MayMove w (Scan k j) = MayScan w k j
MayMove w (Fill k p i word) = MayFill w k p i
MayMove w (Publish k page given) = MayPublish w k page given
MayMove w (Unlock k) = MayUnlock w k
MayMove w (Return k p) = MayReturn w k p

abbrev pub after_move : World → Move → World
after_move w (Look k) = after_look w k
after_move w (Announce k) = after_announce w k
after_move w (LookAgain k) = after_look_again w k
after_move w (Unpin k) = after_unpin w k
after_move w (Lock k) = after_lock w k
after_move w (Scan k j) = after_scan w j
after_move w (Fill k p i word) = after_fill w p i word
after_move w (Publish k page given) = after_publish w given
after_move w (Unlock k) = after_unlock w
after_move w (Return k p) = after_return w p

-- the moves, one after another, lead from w to w', and each is allowed when it is made
abbrev pub Run : World → List Move → World → Type 0
Run w [] w' = w' ≡ w
Run w (m ∷ ms) w' = MayMove w m × Run (after_move w m) ms w'

-- the moves lead to w from the start of a table with these words in its pages
abbrev pub RunsTo : Limits → (ℕ → ℕ → ℕ) → List Move → World → Type 0
RunsTo limits words moves w = Run
    (first_state limits.pages limits.used limits.passes limits.commits words) moves w

-- a list of moves that the machine can make from its first state, with some words in its pages
abbrev pub IsRun : Limits → List Move → Type 0
IsRun limits moves = (words : ℕ → ℕ → ℕ) × (w : World) × RunsTo limits words moves w

-- none of the moves is by the pass k
abbrev pub NoneBy : ℕ → List Move → Type 0
NoneBy k [] = Unit {0}
NoneBy k (m ∷ ms) = (mover m ≢ k) × NoneBy k ms

-- Pass k makes these moves one after another, each possibly after moves of other passes. This takes
-- its history from `old` to `new`.
abbrev pub Makes : ℕ → List Move → List Move → List Move → Type 0
Makes k old [] new = new ≡ old
Makes k old (m ∷ ms) new = (others : List Move) × NoneBy k others
    × Makes k ((old ++ others) ++ m ∷ []) ms new

-- pass k has made no move since the end of its history
abbrev pub Rests : ℕ → List Move → List Move → Type 0
Rests k history trace = (others : List Move) × NoneBy k others × (trace ≡ history ++ others)

-- none of these passes has made a move since the end of its history
abbrev pub AllRest : List Move → List Knowledge → Type 0
AllRest trace [] = Unit {0}
AllRest trace (a ∷ v) = Rests a.number a.history trace × AllRest trace v

-- One list of moves has each of these passes' histories as a prefix. It has no move of a pass after
-- that pass's history.
pub record HasTrace (limits : Limits) (passes : List Knowledge) : Type 0 where
  pub trace : List Move
  pub runs : IsRun limits trace
  pub rests : AllRest trace passes

-- ## Between a lock and its unlock

-- the move takes the lock for the pass k
abbrev pub is_lock_of : ℕ → Move → Bool
is_lock_of k (Look j) = false
is_lock_of k (Announce j) = false
is_lock_of k (LookAgain j) = false
is_lock_of k (Unpin j) = false
is_lock_of k (Lock j) = j == k
is_lock_of k (Scan j i) = false
is_lock_of k (Fill j p i word) = false
is_lock_of k (Publish j page given) = false
is_lock_of k (Unlock j) = false
is_lock_of k (Return j p) = false

-- the moves up to and including the last one with which pass k took the lock
abbrev pub upto_lock : ℕ → List Move → List Move
upto_lock k [] = []
upto_lock k (m ∷ ms) = if list_any (is_lock_of k) (m ∷ ms) then m ∷ upto_lock k ms else []

-- a scan, a fill or a return of a page, by pass k
abbrev pub IsWork : ℕ → Move → Type 0
IsWork k (Look j) = ⊥
IsWork k (Announce j) = ⊥
IsWork k (LookAgain j) = ⊥
IsWork k (Unpin j) = ⊥
IsWork k (Lock j) = ⊥
IsWork k (Scan j i) = j ≡ k
IsWork k (Fill j p i word) = j ≡ k
IsWork k (Publish j page given) = ⊥
IsWork k (Unlock j) = ⊥
IsWork k (Return j p) = j ≡ k

-- each of the moves is a scan, a fill or a return by pass k
abbrev pub AreWork : ℕ → List Move → Type 0
AreWork k [] = Unit {0}
AreWork k (m ∷ ms) = IsWork k m × AreWork k ms
