-- A row of calls of `carry` meets demand 3, since each is the step of our rig; and two results that its statement allows are equal. Assumes nothing.
use mathlib.Core.Path.{◌≡◌, sym, ap, ap₂, ◌∙◌, subst}
use mathlib.Core.List.{List, [], ◌∷◌}
use Prim.Native.Nat.{ℕ}
use Rattle.std.specs.Prelude.{Result}
use Rattle.lent.specs.Number.{number_given}
use Rattle.lent.specs.declared.refusal.Refusal.{Refusal}
use Rattle.lent.proofs.Refusals.{given_of}
use Rattle.chain.specs.Flat.{heard}
use Rattle.registers.proofs.StateLaws.{still_sound}
use Rattle.link.specs.Rig.{ours}
use Rattle.link.specs.Sending.{Sending}
use Rattle.link.specs.Step.{Seen}
use Rattle.link.specs.Promise.{Obeys}
use Rattle.link.specs.Carry.{seen, Carries, CodeObeys}
use Rattle.link.specs.declared.Carried.{Carried}
use Rattle.link.proofs.Results.{heard_fixes, number_fixes}
use Rattle.link.proofs.OneFrame.{obeys}

pub code_obeys : CodeObeys
code_obeys n a b state are sound [] fair called = tt
code_obeys n a b state are sound (c ∷ cs) fair called =
    let O : Obeys ours n c.sending state (seen c.result c.state' c.read' c.marks') =
    subst (Obeys ours n c.sending state) (sym called.0.step) (obeys n a b c.sending state fair.0 are sound) in
    (O, code_obeys n a b c.state' O.are_bytes (still_sound n state c.state' sound O.size O.pins) cs fair.1 called.1)

-- what is seen fixes the result
carried_of : Seen → Carried
carried_of r = record { made = given_of r.made (tt {0}); heard = given_of r.number r.word; asked = given_of r.asked (tt {0}) }

carried_is : (r : Carried) (after read marks : List ℕ) → carried_of (seen r after read marks) ≡ r
unfolding carried_of
carried_is r after read marks =
    ap (λ (x : Result (Unit {0}) Refusal). record { made = x; heard = given_of (heard r.heard).number (heard r.heard).word; asked = given_of (number_given r.asked) (tt {0}) }) (number_fixes r.made)
    ∙ ap₂ (λ (x : Result ℕ Refusal) (y : Result (Unit {0}) Refusal). record { made = r.made; heard = x; asked = y }) (heard_fixes r.heard) (number_fixes r.asked)

pub carry_determined : (n : ℕ) (s : Sending) (state : List ℕ) (r r₁ : Carried) (out out₁ after after₁ reply reply₁ read read₁ marks marks₁ : List ℕ)
    → Carries n s state r out after reply read marks → Carries n s state r₁ out₁ after₁ reply₁ read₁ marks₁
    → (r ≡ r₁) × (out ≡ out₁) × (after ≡ after₁) × (reply ≡ reply₁) × (read ≡ read₁) × (marks ≡ marks₁)
carry_determined n s state r r₁ out out₁ after after₁ reply reply₁ read read₁ marks marks₁ c c₁ =
    let same : seen r after read marks ≡ seen r₁ after₁ read₁ marks₁ = c.step ∙ sym c₁.step in (
      sym (carried_is r after read marks) ∙ ap carried_of same ∙ carried_is r₁ after₁ read₁ marks₁,
      c.frame ∙ sym c₁.frame,
      ap (λ (x : Seen). x.registers) same,
      c.reply ∙ sym c₁.reply,
      ap (λ (x : Seen). x.bytes) same,
      ap (λ (x : Seen). x.marks) same,
    )
