-- Two commands that ask for the same are equal, so `script::parse` promises one result.
use mathlib.Core.Path.{◌≡◌, refl, ap, sym, ◌∙◌}
use mathlib.Core.List.{List}
use Prim.Native.Nat.{ℕ}
use Rattle.std.specs.Prelude.{Option, Some, None, ◌==◌}
use Rattle.std.specs.List.{position}
use Rattle.script.specs.declared.Command.{Command}
use Rattle.script.specs.declared.Command.TheVariants.{New, Read, Write, Step, Drain}
use Rattle.script.specs.Script.{Asks, news, reads, writes, steps, drains, bad, asks, asks_for}

-- the command that asks for it
command : Asks → Option Command
command (news n l t) = Some (New n l t)
command (reads x g bottom) = Some (Read x g bottom)
command (writes x g v bottom) = Some (Write x g v bottom)
command (steps x) = Some (Step x)
command drains = Some Drain
command bad = None

command-asks : (a : Option Command) → command (asks a) ≡ a
unfolding command
command-asks (Some (New n l t)) = refl
command-asks (Some (Read x g bottom)) = refl
command-asks (Some (Write x g v bottom)) = refl
command-asks (Some (Step x)) = refl
command-asks (Some Drain) = refl
command-asks None = refl

pub asks-injective : (a b : Option Command) → asks a ≡ asks b → a ≡ b
asks-injective a b e = sym (command-asks a) ∙ ap command e ∙ command-asks b

pub parse-one : (line : List ℕ) (a b : Option Command) → asks a ≡ asks_for line → asks b ≡ asks_for line → a ≡ b
parse-one line a b p q = asks-injective a b (p ∙ sym q)

pub find-one : (line : List ℕ) (b : ℕ) {r s : Option ℕ} → r ≡ position (λ x. x == b) line → s ≡ position (λ x. x == b) line → r ≡ s
find-one line b p q = p ∙ sym q
