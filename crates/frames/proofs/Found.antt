-- What a command that is found tells: it is of a kind 1 to 4, and of its code's kind and group. Assumes nothing.
use mathlib.Core.Path.{◌≡◌, refl, sym, ap, ◌∙◌}
use Prim.Native.Nat.{ℕ, ◌≤◌, ◌<◌}
use native.Mathlib.Omega.{arith}
use Rattle.std.specs.Prelude.{Option, Some, None, Result, Ok, Err, ok_or}
use Rattle.frames.specs.declared.commands.Kind.{Kind}
use Rattle.frames.specs.declared.commands.Command.{Command}
use Rattle.frames.specs.Answers.{kind_number, kind_given, group_given}
use Rattle.frames.specs.Commands.{kind_of, group_of}
use Rattle.frames.proofs.Lookup.{known_below}

pub kind_least : (kind : Kind) → 1 ≤ kind_number kind
unfolding kind_number
kind_least Kind.Write = omega arith
kind_least Kind.Read = omega arith
kind_least Kind.Clear = omega arith
kind_least Kind.Conversion = omega arith

pub kind_most : (kind : Kind) → kind_number kind ≤ 4
unfolding kind_number
kind_most Kind.Write = omega arith
kind_most Kind.Read = omega arith
kind_most Kind.Clear = omega arith
kind_most Kind.Conversion = omega arith

-- a code whose kind has a name is known, and of eleven bits
pub is_known : (code : ℕ) (kind : Kind) → kind_number kind ≡ kind_of code → kind_of code ≡ 0 → ⊥
is_known code kind e z = omega (arith, kind_least kind)

pub code_below : (code : ℕ) (kind : Kind) → kind_number kind ≡ kind_of code → code < 2048
code_below code kind e = known_below code (is_known code kind e)

-- a lookup whose nothing is an error
pub none_given : {E : Type 0} (given : Option Command) (refusal e : E) (r : Result Command E) → r ≡ ok_or given refusal → r ≡ Err e → (given ≡ None) × (e ≡ refusal)
none_given None refusal e r p q = (refl, (cc))
none_given (Some command) refusal e r p q = cc

pub some_given : {E : Type 0} (given : Option Command) (refusal : E) (command : Command) (r : Result Command E) → r ≡ ok_or given refusal → r ≡ Ok command
    → given ≡ Some command
some_given None refusal command r p q = cc
some_given (Some found) refusal command r p q = cc

-- what the lookup gives: a command of the code's kind and group; and none where the code is unknown
module _ (code : ℕ) (given : Option Command) (e : (kind_given given ≡ kind_of code) × (group_given given ≡ group_of code)) where
  pub kind_found : (command : Command) → given ≡ Some command → kind_number command.kind ≡ kind_of code
  unfolding kind_given
  kind_found command s = ap kind_given (sym s) ∙ e.0

  pub group_found : (command : Command) → given ≡ Some command → command.group ≡ group_of code
  unfolding group_given
  group_found command s = ap group_given (sym s) ∙ e.1

  pub none_found : given ≡ None → kind_of code ≡ 0
  unfolding kind_given
  none_found s = sym e.0 ∙ ap kind_given s
