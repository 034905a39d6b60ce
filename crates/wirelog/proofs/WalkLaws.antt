-- A walk on its way: where it is, what it has counted, and that what it comes to is what the whole walk comes to; where it stops, and why. Assumes nothing.
use mathlib.Core.Path.{◌≡◌, refl, sym, ap, ◌∙◌}
use mathlib.Core.Bool.{Bool, true, false, not}
use mathlib.Core.Logic.{inl, inr}
use mathlib.Core.List.{List}
use Prim.Native.Nat.{ℕ, ◌+◌, ◌≤◌, ◌<◌, ◌^◌}
use native.Mathlib.Omega.{arith}
use lib.Dec.{eqb}
use lib.ListN.{length}
use Rattle.lent.specs.Refusal.{pick}
use Rattle.wirelog.specs.Kinds.{known}
use Rattle.wirelog.specs.Walk.{start, past, Fits, Stops, Walks}
use Rattle.wirelog.specs.Found.{Answer, found_at}
use Rattle.wirelog.specs.declared.walk.Walked.{Walked}
use Rattle.wirelog.proofs.WalkSteps.{Goes, walks_goes}

-- no count is above the place, for each record is at least a byte long
pub record Here (log : List ℕ) (w : Walked) : Type 0 where
  pub at : w.at ≤ length log
  pub sizes : w.sizes ≤ w.at
  pub frames : w.frames ≤ w.at
  pub replies : w.replies ≤ w.at
  pub notes : w.notes ≤ w.at
  pub unknown : w.unknown ≤ w.at
  pub back : (r : Walked) → Goes log r w → Goes log r start

pub here_first : (log : List ℕ) → Here log start
here_first log =
    record {
      at = omega arith;
      sizes = omega arith;
      frames = omega arith;
      replies = omega arith;
      notes = omega arith;
      unknown = omega arith;
      back = λ r g. g;
    }

pub here_fits : (log : List ℕ) (w : Walked) → Here log w → w.at < length log → length log < 2 ^ 64 → Fits w
here_fits log w h l m =
    record {
      sizes = omega (arith, h.sizes);
      frames = omega (arith, h.frames);
      replies = omega (arith, h.replies);
      notes = omega (arith, h.notes);
      unknown = omega (arith, h.unknown);
    }

count_more : (b : Bool) (count at next : ℕ) → count ≤ at → at < next → count + pick b 1 0 ≤ next
unfolding pick
count_more true count at next h l = omega arith
count_more false count at next h l = omega arith

-- one record more
pub here_next : (log : List ℕ) (w : Walked) (kind next : ℕ) → Here log w → (w.at < next) × (next ≤ length log)
    → ((r : Walked) → Goes log r (past w kind next) → Goes log r w) → Here log (past w kind next)
unfolding past
here_next log w kind next h b g =
    record {
      at = b.1;
      sizes = count_more (eqb kind 1) _ _ next h.sizes b.0;
      frames = count_more (eqb kind 2) _ _ next h.frames b.0;
      replies = count_more (eqb kind 3) _ _ next h.replies b.0;
      notes = count_more (eqb kind 4) _ _ next h.notes b.0;
      unknown = count_more (not (known kind)) _ _ next h.unknown b.0;
      back = λ r p. h.back r (g r p);
    }

-- WHERE IT STOPPED, AND WHY
goes_stops : (log : List ℕ) (r : Walked) {w : Walked} → Goes log r w → w.number ≡ 0 → Stops log r
unfolding past
goes_stops log r (Goes.ends w e q) z = inl (ap (λ (v : Walked). v.number) q ∙ z, ap (λ (v : Walked). found_at log v.at) q ∙ e)
goes_stops log r (Goes.refused w number e q) z =
    inr (ap (λ (v : Walked). found_at log v.at) q ∙ e ∙ ap (λ (v : Walked). Answer.Refused v.number) (sym q))
goes_stops log r (Goes.passes w kind body len next e g) z = goes_stops log r g z
goes_stops log r (Goes.passes_unknown w kind next e g) z = goes_stops log r g z

pub walk_stops : (log : List ℕ) (r : Walked) → Walks log r → Stops log r
walk_stops log r w = goes_stops log r (walks_goes log r w) refl
