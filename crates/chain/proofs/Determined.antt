-- Two results that the chain's statement allows are equal. Assumes nothing.
use mathlib.Core.Path.{◌≡◌, sym, ap, ap₂, ◌∙◌}
use mathlib.Core.List.{List}
use Prim.Native.Nat.{ℕ}
use Rattle.chain.specs.declared.Heard.{Heard}
use Rattle.chain.specs.Chain.{chain_word, chain_state, chain_reply, Serves}

abbrev pub heard : ℕ → ℕ → Heard
heard number word = record { number = number; word = word }

pub chain_determined : (n : ℕ) (frame state reply : List ℕ) (r r' : Heard) (after after' answer answer' : List ℕ)
    → Serves n frame state reply r after answer → Serves n frame state reply r' after' answer' → (r ≡ r') × (after ≡ after') × (answer ≡ answer')
chain_determined n frame state reply r r' after after' answer answer' s s' =
    let same : r.number ≡ r'.number = s.number ∙ sym s'.number in (
      ap₂ heard same (s.word ∙ ap (λ (x : ℕ). chain_word x n frame) same ∙ sym s'.word),
      s.registers ∙ ap (λ (x : ℕ). chain_state x n frame state) same ∙ sym s'.registers,
      s.answered ∙ ap (λ (x : ℕ). chain_reply x n frame state reply) same ∙ sym s'.answered,
    )
