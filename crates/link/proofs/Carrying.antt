-- One call of `carry`, from the contracts of the three entries: it is the step of our rig. Assumes nothing.
use mathlib.Core.Path.{◌≡◌, sym, ap, ap₂, ◌∙◌}
use mathlib.Core.Logic.{⊎_elim}
use mathlib.Core.List.{List, ◌++◌}
use Prim.Native.Nat.{ℕ, ◌-◌, ◌≤◌, min}
use native.Mathlib.Omega.{arith}
use lib.ListN.{length, take, drop}
use lib.Seq.{take_at, length-take-le, take_all}
use Rattle.std.specs.Prelude.{Result}
use Rattle.lent.specs.Memory.{over}
use Rattle.lent.specs.Number.{number_given, written}
use Rattle.lent.specs.declared.refusal.Refusal.{Refusal}
use Rattle.lent.proofs.Tests.{lt_or_le}
use Rattle.pec.specs.Noise.{noisy}
use Rattle.pec.proofs.Mask.{length_noisy}
use Rattle.lent.specs.declared.Written.{Written}
use Rattle.frames.specs.Writer.{Wrote}
use Rattle.chain.specs.declared.Heard.{Heard}
use Rattle.chain.specs.Chain.{chain_word, Serves}
use Rattle.chain.specs.Flat.{heard}
use Rattle.host.specs.Reader.{HandsOut}
use Rattle.link.specs.Rig.{Made, Served, Handed, made_by, served_by, handed_by, ours}
use Rattle.link.specs.Sending.{Sending}
use Rattle.link.specs.Step.{frame, arrives, serves, returns, hands, gathered, step}
use Rattle.link.specs.Carry.{Carries}
use Rattle.link.proofs.Results.{written_number}

-- each contract says that what its callers see is our rig's
made_is : (n code : ℕ) (bytes out : List ℕ) (w : Written) (out' : List ℕ) → Wrote n code bytes out w out'
    → ◌≡◌ {A = Made} (record { number = w.number; size = w.length; out = out' }) (ours.writer n code bytes out)
made_is n code bytes out w out' c =
    ap₂ (λ (z : ℕ) (o : List ℕ). record { number = w.number; size = z; out = o }) c.long c.output ∙ ap (λ (x : ℕ). made_by x n code bytes out) c.number

served_is : (n : ℕ) (f state reply : List ℕ) (h : Heard) (state' reply' : List ℕ) → Serves n f state reply h state' reply'
    → ◌≡◌ {A = Served} (record { number = h.number; word = h.word; registers = state'; reply = reply' }) (ours.chain n f state reply)
served_is n f state reply h state' reply' c =
    ap (λ (x : ℕ). record { number = h.number; word = x; registers = state'; reply = reply' }) c.word
    ∙ ap₂ (λ (x y : List ℕ). record { number = h.number; word = chain_word h.number n f; registers = x; reply = y }) c.registers c.answered
    ∙ ap (λ (x : ℕ). served_by x n f state reply) c.number

handed_is : (n code : ℕ) (reply bytes marks : List ℕ) (a : ℕ) (bytes' marks' : List ℕ) → HandsOut n code reply bytes marks a bytes' marks'
    → ◌≡◌ {A = Handed} (record { number = a; bytes = bytes'; marks = marks' }) (ours.reader n code reply bytes marks)
handed_is n code reply bytes marks a bytes' marks' c =
    ap₂ (λ (x y : List ℕ). record { number = a; bytes = x; marks = y }) c.bytes_out c.marks_out ∙ ap (λ (x : ℕ). handed_by x n reply bytes marks) c.number

-- the first bytes of memory, as many as there are, and noise laid on them in place
take_min : (k : ℕ) (xs : List ℕ) → take (min k (length xs)) xs ≡ take k xs
take_min k xs =
    ⊎_elim
    (λ l. let e : min k (length xs) ≡ k = omega arith in ap (λ (i : ℕ). take i xs) e)
    (λ l. take_all (min k (length xs)) xs (omega arith) ∙ sym (take_all k xs l))
    (lt_or_le k (length xs))

laid : (mask memory piece : List ℕ) (k : ℕ) → k ≤ length memory → piece ≡ noisy mask (take (k - 0) memory)
    → (take (k - 0) (piece ++ drop (k - 0) memory) ≡ noisy mask (take k memory)) × (piece ++ drop (k - 0) memory ≡ over (noisy mask (take k memory)) memory)
unfolding over
laid mask memory piece k h e =
    let whole : k - 0 ≡ k = omega arith in
    let same : piece ≡ noisy mask (take k memory) = e ∙ rw whole in
    let long : length (noisy mask (take k memory)) ≡ k = length_noisy mask (take k memory) ∙ length-take-le k memory h in
    (rw (whole, same) (take_at (noisy mask (take k memory)) (drop k memory) k long), rw (whole, same, long))

module _ (n : ℕ) (s : Sending) (state : List ℕ) (made : Result ℕ Refusal) (made' : Result (Unit {0}) Refusal) (size : ℕ) (out' piece : List ℕ) (given : Result ℕ Refusal) (state' reply' : List ℕ) (m : ℕ) (piece' : List ℕ)
    (asked : Result (Unit {0}) Refusal) (read' marks' : List ℕ) where
  pub carried : Wrote n s.code s.bytes s.out (written made) out' → number_given made' ≡ number_given made → size ≡ (written made).length → size ≤ length out' → piece ≡ noisy s.forth (take (size - 0) out')
      → Serves n (take (size - 0) (piece ++ drop (size - 0) out')) state s.reply (heard given) state' reply'
      → m ≡ min size (length reply') → piece' ≡ noisy s.back (take (m - 0) reply')
      → HandsOut n s.code (take (m - 0) (piece' ++ drop (m - 0) reply')) s.read s.marks (number_given asked) read' marks'
      → Carries n s state (record { made = made'; heard = given; asked = asked }) (piece ++ drop (size - 0) out') state' (piece' ++ drop (m - 0) reply') read' marks'
  unfolding step serves hands returns arrives frame
  carried wrote kept es fits out-noise served em back-noise handed = record {
    step =
        ap (gathered W C) reader_is
        ∙ ap (λ (c : Served). gathered W c (reader W c)) chain_is
        ∙ ap (λ (x : Made). gathered x (chain x) (reader x (chain x))) writer_is;
    frame = forth.1 ∙ ap (λ (x : Made). over (noisy s.forth (take x.size x.out)) x.out) writer_is;
    reply =
        back.1
        ∙ ap (λ (l : List ℕ). over (noisy s.back l) reply') returned
        ∙ ap (λ (c : Served). over (noisy s.back (take (length (take size out')) c.reply)) c.reply) chain_is
        ∙ ap (λ (x : Made). over (noisy s.back (take (length (take x.size x.out)) (chain x).reply)) (chain x).reply) writer_is;
  }
    where
      -- what the three calls show
      W : Made
      W = record { number = number_given made'; size = size; out = out' }

      C : Served
      C = record { number = (heard given).number; word = (heard given).word; registers = state'; reply = reply' }

      chain : Made → Served
      chain x = ours.chain n (noisy s.forth (take x.size x.out)) state s.reply

      reader : Made → Served → Handed
      reader x c = ours.reader n s.code (noisy s.back (take (length (take x.size x.out)) c.reply)) s.read s.marks

      writer_is : W ≡ ours.writer n s.code s.bytes s.out
      writer_is =
          ap₂ (λ (x z : ℕ). record { number = x; size = z; out = out' }) (kept ∙ sym (written_number made)) es
          ∙ made_is n s.code s.bytes s.out (written made) out' wrote

      forth : (take (size - 0) (piece ++ drop (size - 0) out') ≡ noisy s.forth (take size out'))
          × (piece ++ drop (size - 0) out' ≡ over (noisy s.forth (take size out')) out')
      forth = laid s.forth out' piece size fits out-noise

      chain_is : C ≡ chain W
      chain_is =
          served_is n (take (size - 0) (piece ++ drop (size - 0) out')) state s.reply (heard given) state' reply' served
          ∙ ap (λ (l : List ℕ). ours.chain n l state s.reply) forth.0

      returned : take m reply' ≡ take (length (take size out')) reply'
      returned = ap (λ (i : ℕ). take i reply') em ∙ take_min size reply' ∙ ap (λ (i : ℕ). take i reply') (sym (length-take-le size out' fits))

      back : (take (m - 0) (piece' ++ drop (m - 0) reply') ≡ noisy s.back (take m reply'))
          × (piece' ++ drop (m - 0) reply' ≡ over (noisy s.back (take m reply')) reply')
      back = laid s.back reply' piece' m (omega arith) back-noise

      reader_is : ◌≡◌ {A = Handed} (record { number = number_given asked; bytes = read'; marks = marks' }) (reader W C)
      reader_is =
          handed_is n s.code (take (m - 0) (piece' ++ drop (m - 0) reply')) s.read s.marks (number_given asked) read' marks' handed
          ∙ ap (λ (l : List ℕ). ours.reader n s.code l s.read s.marks) (back.0 ∙ ap (noisy s.back) returned)
