-- The chain's number in each case, in the order of the tests, and what each outcome has to show. Assumes nothing.
use mathlib.Core.Path.{◌≡◌, sym}
use mathlib.Core.Bool.{true, false}
use mathlib.Core.List.{List}
use Prim.Native.Nat.{ℕ, ◌≤◌, ◌<◌}
use borrow.Author.Tests.{eq-eqb, ne_eqb, lt-ltb, le-ltb}
use lib.Dec.{eqb}
use lib.ListN.{length, take}
use Rattle.std.specs.Prelude.{Result, Ok, Err}
use Rattle.lent.specs.Number.{number}
use Rattle.lent.specs.declared.refusal.Refusal.{Refusal}
use Rattle.lent.specs.Refusal.{pick, first}
use Rattle.lent.specs.Memory.{over}
use Rattle.pec.specs.Group.{right}
use Rattle.frames.specs.Size.{outside}
use Rattle.frames.specs.Kind.{frame_length}
use Rattle.frames.specs.Commands.{kind_of, group_of}
use Rattle.registers.specs.State.{state_length, pin_above, Sound}
use Rattle.registers.specs.Effect.{silence, answer, changed, report}
use Rattle.chain.specs.Chain.{code_of, chain_number, fills, chain_word, chain_state, chain_reply, Serves}
use Rattle.chain.specs.Flat.{heard}
use Rattle.registers.proofs.StateLaws.{none_above}

-- Each section takes one test as passed. What the code holds by then (the kind, the frame's length) comes with its meaning.
module _ (n : ℕ) (frame state : List ℕ) (r : ℕ) where
  pub number_1 : outside n ≡ true → chain_number n frame state r ≡ 1
  unfolding chain_number first pick
  number_1 h = rw h

  module _ (i : outside n ≡ false) where
    pub number_3 : (length state ≡ state_length n → ⊥) → chain_number n frame state r ≡ 3
    unfolding chain_number first pick
    number_3 h = simp (i, ne_eqb _ _ h)

    pub number_3_pin : length state ≡ state_length n → pin_above n state ≡ true → chain_number n frame state r ≡ 3
    unfolding chain_number first pick
    number_3_pin es h = simp (i, eq-eqb _ _ es, h)

    module _ (S : Sound n state) where
      es : length state ≡ state_length n
      es = S.whole

      ep : pin_above n state ≡ false
      ep = none_above n state S.pins

      pub number_5 : r < length frame → chain_number n frame state r ≡ 5
      unfolding chain_number first pick
      number_5 h = simp (i, eq-eqb _ _ es, ep, lt-ltb _ _ h)

      module _ (er : length frame ≤ r) where
        pub number_6 : length frame < 4 → chain_number n frame state r ≡ 6
        unfolding chain_number first pick
        number_6 h = simp (i, eq-eqb _ _ es, ep, le-ltb _ _ er, lt-ltb _ _ h)

        module _ (l : 4 ≤ length frame) where
          pub number_4 : right (take 4 frame) ≡ false → chain_number n frame state r ≡ 4
          unfolding chain_number first pick
          number_4 h = simp (i, eq-eqb _ _ es, ep, le-ltb _ _ er, le-ltb _ _ l, h)

          module _ (p : right (take 4 frame) ≡ true) (kind : ℕ) (ek : kind ≡ kind_of (code_of frame)) where
            pub number_2 : kind ≡ 0 → chain_number n frame state r ≡ 2
            unfolding chain_number first pick
            number_2 h = simp (i, eq-eqb _ _ es, ep, le-ltb _ _ er, le-ltb _ _ l, p, ← ek, h)

            module _ (k : kind ≡ 0 → ⊥) (size : ℕ) (ez : size ≡ frame_length n kind) where
              pub number_6_length : (length frame ≡ size → ⊥) → chain_number n frame state r ≡ 6
              unfolding chain_number first pick
              number_6_length h = simp (i, eq-eqb _ _ es, ep, le-ltb _ _ er, le-ltb _ _ l, p, ← ek, ne_eqb _ _ k, ← ez, ne_eqb _ _ h)

              pub number_0 : length frame ≡ size → chain_number n frame state r ≡ 0
              unfolding chain_number first pick
              number_0 h = simp (i, eq-eqb _ _ es, ep, le-ltb _ _ er, le-ltb _ _ l, p, ← ek, ne_eqb _ _ k, ← ez, eq-eqb _ _ h)

module _ (n : ℕ) (frame state reply : List ℕ) where
  -- a refusal that changes nothing
  pub untouched : (r : Refusal) (given : Result ℕ Refusal) → given ≡ Err r → eqb (number r) 0 ≡ false → fills (number r) ≡ false
      → chain_number n frame state (length reply) ≡ number r → Serves n frame state reply (heard given) state reply
  unfolding heard chain_word chain_state chain_reply pick
  untouched r given g z f e = rw g (record { number = sym e; word = rw z; registers = rw z; answered = rw (z, f) })

  -- a refusal that shows silence
  pub silent : (r : Refusal) (given : Result ℕ Refusal) (reply' : List ℕ) → given ≡ Err r → eqb (number r) 0 ≡ false → fills (number r) ≡ true
      → reply' ≡ over (silence (length frame)) reply → chain_number n frame state (length reply) ≡ number r → Serves n frame state reply (heard given) state reply'
  unfolding heard chain_word chain_state chain_reply pick
  silent r given reply' g z f p e = rw g (record { number = sym e; word = rw z; registers = rw z; answered = rw (z, f) p })

  -- done
  pub done : (kind g word : ℕ) (state' reply' : List ℕ) → chain_number n frame state (length reply) ≡ 0 → kind ≡ kind_of (code_of frame) → g ≡ group_of (code_of frame)
      → word ≡ report n kind frame → state' ≡ changed n kind g frame state → reply' ≡ over (answer n kind g frame state) reply
      → Serves n frame state reply (heard (Ok word)) state' reply'
  unfolding heard chain_word chain_state chain_reply pick
  done kind g word state' reply' e k eg w s a =
      record { number = sym e; word = rw (← k) w; registers = rw (← k, ← eg) s; answered = rw (← k, ← eg) a }
