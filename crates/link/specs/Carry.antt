-- What `carry` promises: one frame over the noisy wire, for all inputs, by code that runs; and that a run of its calls meets demand 3. Assumes nothing.
use Rattle.std.specs.Prelude.{ℕ, ◌≤◌, ◌≡◌, List, [], ◌∷◌}
use Rattle.lent.specs.Bytes.{Bytes}
use Rattle.lent.specs.Memory.{over}
use Rattle.lent.specs.Number.{number_given}
use Rattle.chain.specs.Flat.{heard}
use Rattle.registers.specs.State.{Sound}
use Rattle.link.specs.Rig.{ours}
use Rattle.link.specs.Sending.{Sending}
use Rattle.link.specs.Step.{Seen, arrives, serves, returns, step}
use Rattle.link.specs.Demands.{AllFair, Obeyed}
use Rattle.link.specs.declared.Carried.{Carried}

-- what is seen of a call: its result, and the lent registers, bytes and marks at exit
abbrev pub seen : Carried → List ℕ → List ℕ → List ℕ → Seen
seen r registers bytes marks = record {
  made = number_given r.made;
  number = (heard r.heard).number;
  word = (heard r.heard).word;
  registers = registers;
  asked = number_given r.asked;
  bytes = bytes;
  marks = marks;
}

-- The step of our rig, and the lent frame and reply at exit: noise is laid on in place, on as many bytes as passed. A mask that is too short flips nothing past
-- its end; what it has past the bytes that passed flips nothing.
pub record Carries (n : ℕ) (s : Sending) (state : List ℕ) (r : Carried) (out' state' reply' read' marks' : List ℕ) : Type 0 where
  pub step : seen r state' read' marks' ≡ step ours n s state
  pub frame : out' ≡ over (arrives ours n s) (ours.writer n s.code s.bytes s.out).out
  pub reply : reply' ≡ over (returns ours n s state) (serves ours n s state).reply

-- a call of `carry` with what it was lent and what it left
pub record Call : Type 0 where
  pub sending : Sending
  pub result : Carried
  pub out' : List ℕ
  pub state' : List ℕ
  pub reply' : List ℕ
  pub read' : List ℕ
  pub marks' : List ℕ

-- a row of calls, each on the registers that the one before it left
abbrev pub Called : ℕ → List ℕ → List Call → Type 0
Called n state [] = Unit {0}
Called n state (c ∷ cs) =
    Carries n c.sending state c.result c.out' c.state' c.reply' c.read' c.marks' × Called n c.state' cs

abbrev pub sendings : List Call → List Sending
sendings [] = []
sendings (c ∷ cs) = c.sending ∷ sendings cs

abbrev pub saw : List Call → List Seen
saw [] = []
saw (c ∷ cs) = seen c.result c.state' c.read' c.marks' ∷ saw cs

-- DEMAND 3 OF THE CODE
abbrev pub CodeObeys : Type 0
CodeObeys =
    (n : ℕ) → 1 ≤ n → n ≤ 16 → (state : List ℕ) → Bytes state → Sound n state
    → (cs : List Call) → AllFair n (sendings cs) → Called n state cs → Obeyed ours n state (sendings cs) (saw cs)
