-- A walk as a row of steps, for induction: it is unique, and it is what the definition computes, whose steps do not run out. Assumes nothing.
use mathlib.Core.Path.{◌≡◌, refl, sym, ◌∙◌, subst}
use mathlib.Core.List.{List}
use Prim.Native.Nat.{ℕ, zero, suc, ◌-◌, ◌≤◌, ◌<◌}
use native.Mathlib.Omega.{arith}
use lib.ListN.{length}
use Rattle.wirelog.specs.Found.{Answer, found_at}
use Rattle.wirelog.specs.Walk.{start, past, stopped, step, walk_from, Walks}
use Rattle.wirelog.specs.declared.walk.Walked.{Walked}
use Rattle.wirelog.proofs.RecordLaws.{record_next, unknown_next}

-- A walk that has come to w ends as r.
pub data Goes (log : List ℕ) (r : Walked) : Walked → Type 0 where
  ends : (w : Walked) → found_at log w.at ≡ Answer.End → r ≡ w → Goes log r w
  refused : (w : Walked) (number : ℕ) → found_at log w.at ≡ Answer.Refused number → r ≡ stopped w number → Goes log r w
  passes : (w : Walked) (kind body len next : ℕ) → found_at log w.at ≡ Answer.Record kind body len next → Goes log r (past w kind next) → Goes log r w
  passes_unknown : (w : Walked) (kind next : ℕ) → found_at log w.at ≡ Answer.Unknown kind next → Goes log r (past w kind next) → Goes log r w

module _ (log : List ℕ) where
  -- UNIQUE: what a walk that has come to w does, by what stands there
  abbrev Does : Walked → Walked → Answer → Type 0
  Does r w (Answer.Record kind body len next) = Goes log r (past w kind next)
  Does r w (Answer.Unknown kind next) = Goes log r (past w kind next)
  Does r w Answer.End = r ≡ w
  Does r w (Answer.Refused number) = r ≡ stopped w number

  does : (r : Walked) {w : Walked} → Goes log r w → Does r w (found_at log w.at)
  does r (Goes.ends w e q) = subst (Does r w) (sym e) q
  does r (Goes.refused w number e q) = subst (Does r w) (sym e) q
  does r (Goes.passes w kind body len next e g) = subst (Does r w) (sym e) g
  does r (Goes.passes_unknown w kind next e g) = subst (Does r w) (sym e) g

  goes_once : (r r' : Walked) {w : Walked} → Goes log r w → Goes log r' w → r ≡ r'
  goes_once r r' (Goes.ends w e q) g = q ∙ sym (subst (Does r' w) e (does r' g))
  goes_once r r' (Goes.refused w number e q) g = q ∙ sym (subst (Does r' w) e (does r' g))
  goes_once r r' (Goes.passes w kind body len next e p) g = goes_once r r' p (subst (Does r' w) e (does r' g))
  goes_once r r' (Goes.passes_unknown w kind next e p) g = goes_once r r' p (subst (Does r' w) e (does r' g))

  -- COMPUTED: one step, by what is found; and with more steps than there are bytes left
  one_step : (on : Walked → Walked) (w : Walked) → ((kind next : ℕ) → w.at < next → next ≤ length log → Goes log (on (past w kind next)) (past w kind next))
      → (f : Answer) → found_at log w.at ≡ f → Goes log (step on w f) w
  one_step on w h (Answer.Record kind body len next) e =
      let there = record_next log w.at kind body len next e in Goes.passes w kind body len next e (h kind next there.0 there.1)
  one_step on w h (Answer.Unknown kind next) e =
      let there = unknown_next log w.at kind next e in Goes.passes_unknown w kind next e (h kind next there.0 there.1)
  one_step on w h Answer.End e = Goes.ends w e refl
  one_step on w h (Answer.Refused number) e = Goes.refused w number e refl

  computed : (steps : ℕ) (w : Walked) → w.at ≤ length log → length log - w.at < steps → Goes log (walk_from steps log w) w
  unfolding walk_from past
  computed zero w h l = absurd (omega arith)
  computed (suc steps) w h l =
      one_step (walk_from steps log) w (λ kind next past-it inside. computed steps (past w kind next) inside (omega arith)) (found_at log w.at) refl

  whole_walk : Goes log (walk_from (suc (length log)) log start) start
  whole_walk = computed (suc (length log)) start (omega arith) (omega arith)

  pub goes_walks : (r : Walked) → Goes log r start → Walks log r
  goes_walks r g = record { walked = goes_once r (walk_from (suc (length log)) log start) g whole_walk }

  pub walks_goes : (r : Walked) → Walks log r → Goes log r start
  walks_goes r w = subst (λ (v : Walked). Goes log v start) (sym w.walked) whole_walk
