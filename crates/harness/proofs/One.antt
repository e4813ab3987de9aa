-- Each promise of this crate allows one result for one input: two that it allows are one answer and leave the same words and bytes.
use mathlib.Core.Path.{◌≡◌, refl, sym, ap, ◌∙◌}
use mathlib.Core.Bool.{Bool, true, false}
use mathlib.Core.List.{List}
use Prim.Native.Nat.{ℕ, ◌-◌, ◌<◌}
use native.Mathlib.Omega.{arith}
use Rattle.std.specs.Prelude.{Result, Ok, Err, IfOk}
use lib.Dec.{ltb}
use Rattle.laws.specs.Choice.{pick}
use Rattle.laws.specs.declared.Refusal.{Refusal}
use Rattle.laws.specs.Refusal.{refused_with, given, given_done}
use Rattle.laws.proofs.Told.{number-one, given-one, done-one, answer-one}
use Rattle.geometry.specs.TagMemory.{values}
use Rattle.tracker.specs.declared.Access.{Access}
use Rattle.harness.specs.Calls.{Done, done, tag_fresh, tag_open, access_of, tag_issue, tag_drain, tag_step, tag_show, tag_show_no, tag_whole, given_whether}

pub access-of-one : (write bottom g v : ℕ) {x y : Access} → x ≡ access_of write bottom (pick (ltb g values) g (values - 1)) v → y ≡ access_of write bottom (pick (ltb g values) g (values - 1)) v → x ≡ y
access-of-one write bottom g v p q = p ∙ sym q

-- what a call that has no value answers, and the words and bytes that it leaves
pub called-one : {d : Done} (r s : Result Unit Refusal) (w b m w' b' m' : List ℕ) → done (given_done r) w b m ≡ d → done (given_done s) w' b' m' ≡ d
    → (r ≡ s) × (done (given_done r) w b m ≡ done (given_done s) w' b' m')
called-one r s w b m w' b' m' p q =
    let e : done (given_done r) w b m ≡ done (given_done s) w' b' m' = p ∙ sym q in
    (done-one r s (ap (λ (d : Done). d.number) e), e)

module _ (s bytes memory : List ℕ) (w b m w' b' m' : List ℕ) where
  pub fresh-answer-one : (device : List ℕ) (x y : Result Unit Refusal) → done (given_done x) w b m ≡ tag_fresh device s bytes memory
      → done (given_done y) w' b' m' ≡ tag_fresh device s bytes memory → (x ≡ y) × (done (given_done x) w b m ≡ done (given_done y) w' b' m')
  fresh-answer-one device x y p q = called-one x y w b m w' b' m' p q

  pub open-answer-one : (device : List ℕ) (x y : Result Unit Refusal) → done (given_done x) w b m ≡ tag_open device s bytes memory
      → done (given_done y) w' b' m' ≡ tag_open device s bytes memory → (x ≡ y) × (done (given_done x) w b m ≡ done (given_done y) w' b' m')
  open-answer-one device x y p q = called-one x y w b m w' b' m' p q

  pub issue-answer-one : (i : ℕ) (a : Access) (x y : Result Unit Refusal) → done (given_done x) w b m ≡ tag_issue s bytes memory i a
      → done (given_done y) w' b' m' ≡ tag_issue s bytes memory i a → (x ≡ y) × (done (given_done x) w b m ≡ done (given_done y) w' b' m')
  issue-answer-one i a x y p q = called-one x y w b m w' b' m' p q

  -- a count of write-backs is below any refusal's number
  pub drain-answer-one : (x y : Result ℕ Refusal) → IfOk x (λ v. v < 4294967296) → IfOk y (λ v. v < 4294967296) → done (given x) w b m ≡ tag_drain s bytes memory
      → done (given y) w' b' m' ≡ tag_drain s bytes memory → (x ≡ y) × (done (given x) w b m ≡ done (given y) w' b' m')
  drain-answer-one x y f h p q =
      let e : done (given x) w b m ≡ done (given y) w' b' m' = p ∙ sym q in
      (given-one x y f h (ap (λ (d : Done). d.number) e), e)

  pub step-answer-one : (i : ℕ) (answer a a' : List ℕ) (x y : Result Unit Refusal) → (done (given_done x) w b m, a) ≡ tag_step s bytes memory i answer
      → (done (given_done y) w' b' m', a') ≡ tag_step s bytes memory i answer → (x ≡ y) × (done (given_done x) w b m ≡ done (given_done y) w' b' m') × (a ≡ a')
  step-answer-one i answer a a' x y p q =
      let e : ◌≡◌ {A = Done × List ℕ} (done (given_done x) w b m, a) (done (given_done y) w' b' m', a') = p ∙ sym q in
      (done-one x y (ap (λ (d : Done × List ℕ). d.0.number) e), ap (λ (d : Done × List ℕ). d.0) e, ap (λ (d : Done × List ℕ). d.1) e)

-- a place may be as large as a refusal's number: which of the two it is, the second promise says
pub show-answer-one : (s bytes memory : List ℕ) (k : ℕ) (x y : Result ℕ Refusal) → (given x ≡ tag_show s bytes memory k) × (refused_with x ≡ tag_show_no s bytes memory k)
    → (given y ≡ tag_show s bytes memory k) × (refused_with y ≡ tag_show_no s bytes memory k) → x ≡ y
show-answer-one s bytes memory k x y p q = answer-one x y (p.0 ∙ sym q.0) (p.1 ∙ sym q.1)

whether-one : (x y : Result Bool Refusal) → given_whether x ≡ given_whether y → x ≡ y
whether-one (Ok true) (Ok true) e = refl
whether-one (Ok false) (Ok false) e = refl
whether-one (Ok true) (Ok false) e = absurd (omega arith)
whether-one (Ok false) (Ok true) e = absurd (omega arith)
whether-one (Ok true) (Err q) e = absurd (omega arith)
whether-one (Ok false) (Err q) e = absurd (omega arith)
whether-one (Err p) (Ok true) e = absurd (omega arith)
whether-one (Err p) (Ok false) e = absurd (omega arith)
whether-one (Err p) (Err q) e = ap Err (number-one p q (omega arith))

pub whole-answer-one : (s : List ℕ) (x y : Result Bool Refusal) → given_whether x ≡ tag_whole s → given_whether y ≡ tag_whole s → x ≡ y
whole-answer-one s x y p q = whether-one x y (p ∙ sym q)

-- for C, as numbers
module _ (s bytes memory : List ℕ) {x y : Done} where
  pub fresh-one : (device : List ℕ) → x ≡ tag_fresh device s bytes memory → y ≡ tag_fresh device s bytes memory → x ≡ y
  fresh-one device p q = p ∙ sym q

  pub open-one : (device : List ℕ) → x ≡ tag_open device s bytes memory → y ≡ tag_open device s bytes memory → x ≡ y
  open-one device p q = p ∙ sym q

  pub issue-one : (i : ℕ) (a : Access) → x ≡ tag_issue s bytes memory i a → y ≡ tag_issue s bytes memory i a → x ≡ y
  issue-one i a p q = p ∙ sym q

  pub drain-one : x ≡ tag_drain s bytes memory → y ≡ tag_drain s bytes memory → x ≡ y
  drain-one p q = p ∙ sym q

pub step-one : (s bytes memory : List ℕ) (i : ℕ) (answer : List ℕ) {x y : Done × List ℕ} → x ≡ tag_step s bytes memory i answer → y ≡ tag_step s bytes memory i answer → x ≡ y
step-one s bytes memory i answer p q = p ∙ sym q

pub show-one : (s bytes memory : List ℕ) (k : ℕ) {x y : ℕ} → x ≡ tag_show s bytes memory k → y ≡ tag_show s bytes memory k → x ≡ y
show-one s bytes memory k p q = p ∙ sym q

pub whole-one : (s : List ℕ) {x y : ℕ} → x ≡ tag_whole s → y ≡ tag_whole s → x ≡ y
whole-one s p q = p ∙ sym q
