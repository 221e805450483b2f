-- What a pass does after it has learned of commits, and how pins are ordered by the moves.
use Rattle.std.proofs.Common.{◌≡◌, ℕ, suc, ◌+◌, ◌≤◌, ◌==◌, if◌then◌else◌, Bool, true, false, List, [], ◌∷◌, ◌++◌, length, Option, Some, None, refl, ap, ◌∙◌, arith, length-append, append_assoc}
use Rattle.be_core.specs.Machine.{World, Writer, first_state, scanned_by, scanned_out, scanned_on}
use Rattle.be_table.specs.declared.pass.Move.{Move}
use Rattle.be_table.specs.declared.pass.Move.TheVariants.{Look, Announce, LookAgain, Unpin, Lock, Scan, Fill, Publish, Unlock, Return}
use Rattle.be_table.specs.Rule.{Reaches}
use Rattle.be_table.specs.Trace.{Run, after_move}
use Rattle.be_table.specs.History.{StartsWith}
use Rattle.be_table.specs.declared.pass.Commit.{Commit}
use Rattle.be_table.specs.declared.pass.Knowledge.{Knowledge}
use Rattle.be_table.proofs.Frames.{longer_seen}
use Rattle.be_store.specs.Learned.{ComesAfter}
use Rattle.be_store.proofs.Calls.{calls_seen, starts_trans}

pub comes_after : (reported : List Commit) (d : Knowledge) → StartsWith d.seen reported → ComesAfter reported d
comes_after reported d has = record {
  pins = λ a z cs n calls p.
      let more = starts_trans reported a.seen z.seen p.more (starts_trans reported d.seen a.seen (calls_seen d cs a calls) has) in
      (more, (let l = longer_seen z.seen reported more in omega (arith, p.number, l)));
  writes = λ a z cs ops n dones calls h.
      let before = starts_trans reported d.seen a.seen (calls_seen d cs a calls) has in
      let next : StartsWith z.seen a.seen = (h.others ++ h.commit ∷ [], h.seen ∙ append_assoc a.seen h.others (h.commit ∷ [])) in
      let long = ap length h.seen in
      let parts = length-append (a.seen ++ h.others) (h.commit ∷ []) in
      let front = length-append a.seen h.others in
      (starts_trans reported a.seen z.seen next before, (let l = longer_seen a.seen reported before in omega (arith, h.number, long, parts, front, l)));
}

-- ## Versions are counted by the moves that publish them

abbrev published_by : Move → ℕ
published_by (Look k) = 0
published_by (Announce k) = 0
published_by (LookAgain k) = 0
published_by (Unpin k) = 0
published_by (Lock k) = 0
published_by (Scan k j) = 0
published_by (Fill k p i word) = 0
published_by (Publish k page given) = 1
published_by (Unlock k) = 0
published_by (Return k p) = 0

abbrev published : List Move → ℕ
published [] = 0
published (m ∷ ms) = published_by m + published ms

unchanged : (x y : ℕ) → x ≡ y → x ≡ 0 + y
unchanged x y e = omega (arith, e)

one_more : (x : ℕ) → suc x ≡ 1 + x
one_more x = omega arith

scanned_current : (w : World) (o : Option Writer) (j : ℕ) → (scanned_by w o j).current ≡ w.current
scanned_current w None j = refl
scanned_current w (Some h) j = by (suc j == w.passes)
  where
    by : (b : Bool) → (if b then scanned_out w h j else scanned_on w h j).current ≡ w.current
    by true = refl
    by false = refl

moved_current : (w : World) (m : Move) → (after_move w m).current ≡ published_by m + w.current
moved_current w (Look k) = unchanged w.current w.current refl
moved_current w (Announce k) = unchanged w.current w.current refl
moved_current w (LookAgain k) = unchanged w.current w.current refl
moved_current w (Unpin k) = unchanged w.current w.current refl
moved_current w (Lock k) = unchanged w.current w.current refl
moved_current w (Scan k j) = unchanged (scanned_by w w.writer j).current w.current (scanned_current w w.writer j)
moved_current w (Fill k p i word) = unchanged w.current w.current refl
moved_current w (Publish k page given) = one_more w.current
moved_current w (Unlock k) = unchanged w.current w.current refl
moved_current w (Return k p) = unchanged w.current w.current refl

one_after_all : (last mid first one all : ℕ) → last ≡ all + mid → mid ≡ one + first → last ≡ (one + all) + first
one_after_all last mid first one all e f = omega (arith, e, f)

run_current : (w v : World) (ms : List Move) → Run w ms v → v.current ≡ published ms + w.current
run_current w v [] r = unchanged v.current w.current (ap (λ (u : World). u.current) r)
run_current w v (m ∷ ms) r = one_after_all v.current (after_move w m).current w.current (published_by m) (published ms) (run_current (after_move w m) v ms r.1) (moved_current w m)

one_before_all : (one all more both : ℕ) → both ≡ all + more → one + both ≡ (one + all) + more
one_before_all one all more both e = omega (arith, e)

published_append : (ms ns : List Move) → published (ms ++ ns) ≡ published ms + published ns
published_append [] ns = unchanged (published ns) (published ns) refl
published_append (m ∷ ms) ns = one_before_all (published_by m) (published ms) (published ns) (published (ms ++ ns)) (published_append ms ns)

no_later : (seen first last early all more : ℕ) → seen ≤ first → first ≡ early + 0 → last ≡ all + 0 → all ≡ early + more → seen ≤ last
no_later seen first last early all more le f l e = omega (arith, le, f, l, e)

-- The machine has published everything that the pass with the shorter history had seen.
pub current_later : (c d : Knowledge) (P Q : World → Type 0) (r : Reaches c P) (s : Reaches d Q) → StartsWith d.history c.history → length c.seen ≤ s.world.current
current_later c d P Q r s front =
    no_later (length c.seen) r.world.current s.world.current (published c.history) (published d.history) (published front.0) r.known.seen
    (run_current (first_state c.limits.pages c.limits.used c.limits.passes c.limits.commits r.words) r.world c.history r.runs)
    (run_current (first_state d.limits.pages d.limits.used d.limits.passes d.limits.commits s.words) s.world d.history s.runs)
    (ap published front.1 ∙ published_append c.history front.0)
