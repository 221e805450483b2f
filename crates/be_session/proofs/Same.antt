-- Prepared queries, and what sessions hold, that are equal in everything that they keep.
use Rattle.std.proofs.Common.{◌≡◌}
use Rattle.be_session.specs.Prepared.{PreparedQuery, with_found}
use Rattle.be_session.specs.Sitting.{Holding}

pub same_prepared : (p q : PreparedQuery) → p.live ≡ q.live → p.found ≡ q.found → p.came ≡ q.came → p.went ≡ q.went → p ≡ q
same_prepared p q a b c d = λ i. record { live = a i; found = b i; came = c i; went = d i }

-- Prepared queries that are equal except for what was found.
pub same_but_found : (p q : PreparedQuery) → q.live ≡ p.live → q.came ≡ p.came → q.went ≡ p.went → q ≡ with_found p q.found
same_but_found p q a b c = λ i. record { live = a i; found = q.found; came = b i; went = c i }

pub same_holding : (h k : Holding) → h.spare ≡ k.spare → h.given ≡ k.given → h.vain ≡ k.vain → h.began ≡ k.began → h ≡ k
same_holding h k a b c d = λ i. record { spare = a i; given = b i; vain = c i; began = d i }
