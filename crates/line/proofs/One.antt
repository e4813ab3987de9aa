-- Each public function has one answer: two results that its promise allows for one input are equal, as both are the definition's.
use mathlib.Core.Path.{◌≡◌, sym, ◌∙◌}
use mathlib.Core.List.{List}
use mathlib.Core.Bool.{Bool}
use Prim.Native.Nat.{ℕ}
use Rattle.line.specs.Word.{block_of, changed, holder, held, has, word, held_by, cleaned}
use Rattle.line.specs.Find.{line_of, lowest_free, loose_from, victim, after}

one : {A : Type 0} {d : A} (a b : A) → a ≡ d → b ≡ d → a ≡ b
one a b p q = p ∙ sym q

module _ (w h : ℕ) where
  pub one-block-of : (a b : ℕ) → a ≡ block_of w → b ≡ block_of w → a ≡ b
  one-block-of = one

  pub one-changed : (a b : Bool) → a ≡ changed w → b ≡ changed w → a ≡ b
  one-changed = one

  pub one-holder : (a b : ℕ) → a ≡ holder w → b ≡ holder w → a ≡ b
  one-holder = one

  pub one-held : (a b : Bool) → a ≡ held w → b ≡ held w → a ≡ b
  one-held = one

  pub one_has : (a b : Bool) → a ≡ has w h → b ≡ has w h → a ≡ b
  one_has = one

  pub one_word : (c : Bool) (a b : ℕ) → a ≡ word w c h → b ≡ word w c h → a ≡ b
  one_word c = one

  pub one-held-by : (a b : ℕ) → a ≡ held_by w h → b ≡ held_by w h → a ≡ b
  one-held-by = one

  pub one-cleaned : (a b : ℕ) → a ≡ cleaned w → b ≡ cleaned w → a ≡ b
  one-cleaned = one

module _ (lines : List ℕ) (l x : ℕ) where
  pub one-line-of : (a b : ℕ) → a ≡ line_of lines l x → b ≡ line_of lines l x → a ≡ b
  one-line-of = one

  pub one-lowest-free : (a b : ℕ) → a ≡ lowest_free lines l → b ≡ lowest_free lines l → a ≡ b
  one-lowest-free = one

  pub one-loose-from : (a b : ℕ) → a ≡ loose_from lines l x → b ≡ loose_from lines l x → a ≡ b
  one-loose-from = one

  pub one-victim : (a b : ℕ) → a ≡ victim lines l x → b ≡ victim lines l x → a ≡ b
  one-victim = one

  pub one-after : (a b : ℕ) → a ≡ after l x → b ≡ after l x → a ≡ b
  one-after = one
