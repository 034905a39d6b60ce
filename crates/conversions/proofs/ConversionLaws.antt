-- The conversion commands: what their patterns are bounded by, what "within" tells, and the search. Assumes nothing.
use mathlib.Core.Path.{◌≡◌, refl, sym, ap, ap₂, ◌∙◌}
use mathlib.Core.Bool.{Bool, true, false, ◌&&◌}
use mathlib.Core.List.{List, map}
use Prim.Native.Nat.{ℕ, zero, suc, ◌+◌, ◌*◌, ◌-◌, ◌/◌, ◌%◌, ◌<◌, ◌≤◌}
use native.Mathlib.Numerals.{add-one}
use native.Mathlib.Omega.{arith}
use borrow.Author.Tests.{eqb-true, ltb-true, leb-true}
use lib.Dec.{eqb, ltb, leb}
use lib.ListN.{get_or, get_or-map}
use Rattle.lent.specs.Refusal.{pick}
use Rattle.lent.proofs.Tests.{and_left, and_right, each_below}
use Rattle.conversions.specs.Conversions.{pattern, patterns, fields, pattern_at, within, weighed, code_by, choice_in, fields_by, fits, seek, command_of, is_conversion}
use Rattle.conversions.specs.Packed.{packed, packed_patterns}
use Rattle.conversions.specs.declared.Pattern.{Pattern}
use Rattle.conversions.specs.declared.Fields.{Fields}
use Rattle.conversions.specs.declared.Conversion.{Conversion}

-- The digits of a row are the parts of its pattern: computed for the 13, and so at every place.
abbrev pub unpacked : ℕ → Pattern
unpacked row = pattern (row / 0x100000) (row / 0x10000 % 16) (row / 0x1000 % 16) (row / 0x100 % 16) (row / 0x10 % 16) (row % 16)

all_unpacked : map unpacked packed_patterns ≡ patterns
unfolding packed_patterns packed patterns
all_unpacked = refl

pub unpacked_at : (command : ℕ) → unpacked (get_or packed_patterns command 0) ≡ pattern_at command
unfolding pattern_at
unpacked_at command = sym (get_or-map unpacked packed_patterns command 0) ∙ ap (λ (l : List Pattern). get_or l command (pattern 0 0 0 0 0 0)) all_unpacked

-- records that agree in every part are equal
abbrev pub conversion : ℕ → ℕ → ℕ → ℕ → ℕ → ℕ → Conversion
conversion number command mode discharge pull_up choice = record {
  number = number;
  command = command;
  mode = mode;
  discharge = discharge;
  pull_up = pull_up;
  choice = choice;
}

pub fields_ext : (f g : Fields) → f.mode ≡ g.mode → f.discharge ≡ g.discharge → f.pull_up ≡ g.pull_up → f.choice ≡ g.choice → f ≡ g
fields_ext f g em ed ep ec =
    ap₂ (λ (x y : ℕ). fields x y f.pull_up f.choice) em ed ∙ ap₂ (λ (x y : ℕ). fields g.mode g.discharge x y) ep ec

pub conversion_ext : (s t : Conversion) → s.number ≡ t.number → s.command ≡ t.command → s.mode ≡ t.mode → s.discharge ≡ t.discharge
    → s.pull_up ≡ t.pull_up → s.choice ≡ t.choice → s ≡ t
conversion_ext s t en ec em ed ep eh =
    ap₂ (λ (x y : ℕ). conversion x y s.mode s.discharge s.pull_up s.choice) en ec
    ∙ ap₂ (λ (x y : ℕ). conversion t.number t.command x y s.pull_up s.choice) em ed
    ∙ ap₂ (λ (x y : ℕ). conversion t.number t.command t.mode t.discharge x y) ep eh

-- what every pattern keeps to
bounded : ℕ → Bool
bounded command =
    let p = pattern_at command in
    leb 0x200 p.base && (ltb (p.base + weighed p.sort p.most) 1200 && (ltb p.dcp 2 && (ltb p.pup 2 && ltb p.most 8)))

pub record Bounds (p : Pattern) : Type 0 where
  pub least : 0x200 ≤ p.base
  pub top : p.base + weighed p.sort p.most < 1200
  pub dcp : p.dcp < 2
  pub pup : p.pup < 2
  pub most : p.most < 8

pub bounds : (command : ℕ) → command < 13 → Bounds (pattern_at command)
unfolding bounded pattern_at patterns weighed pick
bounds command h =
    let p = pattern_at command in
    let last = ltb p.pup 2 && ltb p.most 8 in
    let third = ltb p.dcp 2 && last in
    let top = p.base + weighed p.sort p.most in
    let t = each_below bounded 13 refl command h in
    let t1 = and_right (leb 0x200 p.base) (ltb top 1200 && third) t in
    let t2 = and_right (ltb top 1200) third t1 in
    let t3 = and_right (ltb p.dcp 2) last t2 in
    record {
      least = leb-true 0x200 p.base (and_left (leb 0x200 p.base) (ltb top 1200 && third) t);
      top = ltb-true top 1200 (and_left (ltb top 1200) third t1);
      dcp = ltb-true p.dcp 2 (and_left (ltb p.dcp 2) last t2);
      pup = ltb-true p.pup 2 (and_left (ltb p.pup 2) (ltb p.most 8) t3);
      most = ltb-true p.most 8 (and_right (ltb p.pup 2) (ltb p.most 8) t3);
    }

-- fields within a pattern
pub record Inside (p : Pattern) (f : Fields) : Type 0 where
  pub mode : f.mode < 4
  pub discharge : f.discharge ≤ p.dcp
  pub pull_up : f.pull_up ≤ p.pup
  pub choice : f.choice ≤ p.most

pub inside : (p : Pattern) (f : Fields) → within p f ≡ true → Inside p f
unfolding within
inside p f t =
    let last = leb p.least f.choice && leb f.choice p.most in
    let third = leb f.pull_up p.pup && last in
    let second = leb f.discharge p.dcp && third in
    let t1 = and_right (ltb f.mode 4) second t in
    let t2 = and_right (leb f.discharge p.dcp) third t1 in
    let t3 = and_right (leb f.pull_up p.pup) last t2 in
    record {
      mode = ltb-true f.mode 4 (and_left (ltb f.mode 4) second t);
      discharge = leb-true f.discharge p.dcp (and_left (leb f.discharge p.dcp) third t1);
      pull_up = leb-true f.pull_up p.pup (and_left (leb f.pull_up p.pup) last t2);
      choice = leb-true f.choice p.most (and_right (leb p.least f.choice) (leb f.choice p.most) t3);
    }

-- a larger choice weighs no less
weighed_grows : (sort choice most : ℕ) → choice ≤ most → weighed sort choice ≤ weighed sort most
unfolding weighed pick
weighed_grows sort choice most h = by_test (eqb sort 2)
  where
    by_test : (t : Bool) → pick t (0x20 * choice) choice ≤ pick t (0x20 * most) most
    by_test true = omega arith
    by_test false = omega arith

-- a bit that may be there, and one that is there
pub bit_times : (a b : ℕ) → a < 2 → b < 2 → a * b < 2
bit_times zero b h k = omega arith
bit_times (suc zero) b h k = omega arith
bit_times (suc (suc a)) b h k = absurd (omega arith)

pub weighed_small : (sort choice : ℕ) → choice < 8 → weighed sort choice < 256
unfolding weighed pick
weighed_small sort choice h = by_test (eqb sort 2)
  where
    by_test : (t : Bool) → pick t (0x20 * choice) choice < 256
    by_test true = omega arith
    by_test false = omega arith

-- what the search steps over, and what it finds
pub seek_here : (code c k : ℕ) → fits c code ≡ true → seek code c (suc k) ≡ c
unfolding seek pick
seek_here code c k e = rw e

pub seek_on : (code c k : ℕ) → fits c code ≡ false → seek code c (suc k) ≡ seek code (suc c) k
unfolding seek pick
seek_on code c k e = rw e

-- a command's code by fields that are within it, in bounds
pub code_between : (p : Pattern) (f : Fields) → Bounds p → Inside p f → (0x200 ≤ code_by p f) × (code_by p f < 0x700)
unfolding code_by
code_between p f b i =
    let w = weighed_grows p.sort f.choice p.most i.choice in
    (omega (arith, b.least), omega (arith, w, b.top, b.dcp, b.pup, i.mode, i.discharge, i.pull_up))

-- what building a code asks for
pub ready : (p : Pattern) (f : Fields) → Bounds p → within p f ≡ true → (p.base < 2048) × (f.mode < 4) × (f.discharge < 2) × (f.pull_up < 2) × (f.choice < 8)
ready p f b t =
    let i = inside p f t in
    (omega (arith, b.top), i.mode, omega (arith, b.dcp, i.discharge), omega (arith, b.pup, i.pull_up), omega (arith, b.most, i.choice))

-- and fields that were read from a code have it
pub read_ready : (p : Pattern) (f : Fields) (code : ℕ) → Bounds p → f ≡ fields_by p code
    → (p.base < 2048) × (f.mode < 4) × (f.discharge < 2) × (f.pull_up < 2) × (f.choice < 8)
unfolding fields_by choice_in
read_ready p f code b e = rw e (omega (arith, b.top), omega arith, bit_times p.dcp _ b.dcp (omega arith), bit_times p.pup _ b.pup (omega arith), chosen (eqb p.sort 2) (eqb p.sort 1))
  where
    chosen : (s t : Bool) → pick s (code / 0x20 % 4) (pick t (code % 8) 0) < 8
    chosen true t = unfold pick in omega arith
    chosen false true = unfold pick in omega arith
    chosen false false = unfold pick in omega arith

-- a code is one of the command's, by its pattern and the fields in it
pub fits_by : (command code : ℕ) (p : Pattern) (f : Fields) → p ≡ pattern_at command → f ≡ fields_by p code → fits command code ≡ (within p f && eqb (code_by p f) code)
unfolding fits
fits_by command code p f e g = rw (g, e)

-- the first four commands have codes below 0x400, so that from there on the search may begin behind them
low_code : (c : ℕ) (f : Fields) → c < 4 → Inside (pattern_at c) f → code_by (pattern_at c) f < 0x400
unfolding pattern_at patterns code_by weighed pick
low_code zero f h i = omega (arith, i.mode, i.discharge, i.pull_up, i.choice)
low_code (suc zero) f h i = omega (arith, i.mode, i.discharge, i.pull_up, i.choice)
low_code (suc (suc zero)) f h i = omega (arith, i.mode, i.discharge, i.pull_up, i.choice)
low_code (suc (suc (suc zero))) f h i = omega (arith, i.mode, i.discharge, i.pull_up, i.choice)
low_code (suc (suc (suc (suc c)))) f h i = absurd (omega arith)

low_missed : (c code : ℕ) → c < 4 → 0x400 ≤ code → fits c code ≡ false
low_missed c code h l = go (fits c code) refl
  where
    p : Pattern
    p = pattern_at c

    f : Fields
    f = fields_by p code

    go : (b : Bool) → fits c code ≡ b → b ≡ false
    go false e = refl
    go true e =
        let t : (within p f && eqb (code_by p f) code) ≡ true = sym (fits_by c code p f refl refl) ∙ e in
        let built = eqb-true (code_by p f) code (and_right (within p f) (eqb (code_by p f) code) t) in
        absurd (omega (arith, low_code c f h (inside p f (and_left (within p f) (eqb (code_by p f) code) t))))

pub from_fourth : (code : ℕ) → 0x400 ≤ code → command_of code ≡ seek code 4 9
unfolding command_of
from_fourth code l =
    seek_on code 0 12 (low_missed 0 code (omega arith) l)
    ∙ seek_on code 1 11 (low_missed 1 code (omega arith) l)
    ∙ seek_on code 2 10 (low_missed 2 code (omega arith) l)
    ∙ seek_on code 3 9 (low_missed 3 code (omega arith) l)

pub found_here : (code c : ℕ) → c < 13 → fits c code ≡ true → seek code c (13 - c) ≡ c
found_here code c h e = let k : 13 - c ≡ suc (12 - c) = omega arith in rw k (seek_here code c (12 - c) e)

pub found_on : (code c : ℕ) → c < 13 → fits c code ≡ false → seek code c (13 - c) ≡ seek code (c + 1) (13 - (c + 1))
found_on code c h e =
    let k : 13 - c ≡ suc (12 - c) = omega arith in
    let j : 13 - (c + 1) ≡ 12 - c = omega arith in
    rw (k, j, add-one) (seek_on code c (12 - c) e)

pub found_none : (code c : ℕ) → 13 ≤ c → seek code c (13 - c) ≡ 13
unfolding seek
found_none code c h = let k : 13 - c ≡ 0 = omega arith in rw k

-- what is found fits
seek_fits : (code c k : ℕ) → seek code c k < 13 → fits (seek code c k) code ≡ true
unfolding seek pick
seek_fits code c zero h = absurd (omega arith)
seek_fits code c (suc k) h = by_test (fits c code) refl (λ l. seek_fits code (suc c) k l) h
  where
    by_test : (b : Bool) → fits c code ≡ b → (seek code (suc c) k < 13 → fits (seek code (suc c) k) code ≡ true)
        → pick b c (seek code (suc c) k) < 13 → fits (pick b c (seek code (suc c) k)) code ≡ true
    by_test true e on l = e
    by_test false e on l = on l

-- A code of some command: the fields in it are within the command's pattern, and build it.
pub record Own (code : ℕ) : Type 0 where
  pub command : command_of code < 13
  pub within : within (pattern_at (command_of code)) (fields_by (pattern_at (command_of code)) code) ≡ true
  pub built : code_by (pattern_at (command_of code)) (fields_by (pattern_at (command_of code)) code) ≡ code

pub own : (code : ℕ) → is_conversion code ≡ true → Own code
unfolding is_conversion command_of
own code e =
    let p = pattern_at (command_of code) in
    let f = fields_by p code in
    let h : command_of code < 13 = ltb-true (command_of code) 13 e in
    let t : (within p f && eqb (code_by p f) code) ≡ true = sym (fits_by (command_of code) code p f refl refl) ∙ seek_fits code 0 13 h in
    record {
      command = h;
      within = and_left (within p f) (eqb (code_by p f) code) t;
      built = eqb-true (code_by p f) code (and_right (within p f) (eqb (code_by p f) code) t);
    }

pub conversion_between : (code : ℕ) → is_conversion code ≡ true → (0x200 ≤ code) × (code < 0x700)
conversion_between code e =
    let o = own code e in
    let p = pattern_at (command_of code) in
    let f = fields_by p code in
    let c = code_between p f (bounds (command_of code) o.command) (inside p f o.within) in
    (omega (arith, o.built, c.0), omega (arith, o.built, c.1))
