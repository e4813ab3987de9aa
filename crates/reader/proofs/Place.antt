-- Laws of what stands at a place: the two ways to the end, and a record.
use mathlib.Core.Path.{◌≡◌, refl, ap, sym, ◌∙◌}
use mathlib.Core.Bool.{Bool, true, false}
use mathlib.Core.List.{List, []}
use Prim.Native.Nat.{ℕ, ◌+◌, ◌*◌, ◌/◌, ◌%◌, ◌≤◌, ◌<◌}
use native.Mathlib.Omega.{arith}
use borrow.Author.Tests.{le-leb, lt-leb, leb-false}
use lib.Dec.{leb}
use lib.ListN.{length}
use Rattle.laws.specs.Choice.{pick, either}
use Rattle.laws.proofs.Choice.{not-both-ways}
use Rattle.laws.specs.Bytes.{part}
use Rattle.image.specs.Test.{whole_blocks, image_block, count_of}
use Rattle.reader.specs.Read.{Reading, at_end, the_end, content_place, the_record, reading_at, content_at}

module _ (image : List ℕ) (p : ℕ) where
  pub past-blocks : whole_blocks image ≤ 1 + p / 7 → reading_at image p ≡ the_end p
  unfolding reading_at at_end either
  past-blocks h = rw (le-leb (whole_blocks image) (1 + p / 7) h)

  pub past-count : 1 + p / 7 < whole_blocks image → count_of (image_block image (1 + p / 7)) ≤ p % 7 → reading_at image p ≡ the_end p
  unfolding reading_at at_end either
  past-count h g = rw (lt-leb (whole_blocks image) (1 + p / 7) h, le-leb (count_of (image_block image (1 + p / 7))) (p % 7) g)

  pub is-record : 1 + p / 7 < whole_blocks image → p % 7 < count_of (image_block image (1 + p / 7)) → reading_at image p ≡ the_record image p
  unfolding reading_at at_end either
  is-record h g = rw (lt-leb (whole_blocks image) (1 + p / 7) h, lt-leb (count_of (image_block image (1 + p / 7))) (p % 7) g)

-- what was found: the image has its 64 bytes, and they are the record's
module _ (image : List ℕ) (p : ℕ) (r : Reading) (e : r ≡ reading_at image p) where
  at-end : (b : Bool) → at_end image p ≡ b → r ≡ pick b (the_end p) (the_record image p)
  unfolding reading_at
  at-end b q = rw (e, q)

  content-by : (b : Bool) → at_end image p ≡ b → content_at image p ≡ pick b [] (part image (content_place p) 64)
  unfolding content_at
  content-by b q = rw q

  room : at_end image p ≡ false → content_place p + 64 ≤ length image
  unfolding at_end either
  room q = by_blocks (leb (length image / 512) (1 + p / 7)) refl q
    where
      by_blocks : (b : Bool) → leb (length image / 512) (1 + p / 7) ≡ b → either b (leb (count_of (image_block image (1 + p / 7))) (p % 7)) ≡ false → content_place p + 64 ≤ length image
      by_blocks true h g = let z : ◌≡◌ {A = ℕ} 0 1 = cc in absurd (omega arith)
      by_blocks false h g = let k : 1 + p / 7 < length image / 512 = leb-false _ _ h in omega arith

  pub content-room : r.found ≡ true → r.start + 64 ≤ length image
  content-room f = by_end (at_end image p) refl
    where
      by_end : (b : Bool) → at_end image p ≡ b → r.start + 64 ≤ length image
      by_end true q =
          let t : false ≡ true = sym (ap (λ (x : Reading). x.found) (at-end true q)) ∙ f in
          let z : ◌≡◌ {A = ℕ} 0 1 = cc in absurd (omega arith)
      by_end false q = let s : r.start ≡ content_place p = ap (λ (x : Reading). x.start) (at-end false q) in let h : content_place p + 64 ≤ length image = room q in omega (arith, s, h)

  -- and the place after it is one on
  pub moves-on : r.found ≡ true → (p < 7 * whole_blocks image) × (r.next ≡ p + 1)
  moves-on f = by_end (at_end image p) refl
    where
      by_end : (b : Bool) → at_end image p ≡ b → (p < 7 * whole_blocks image) × (r.next ≡ p + 1)
      by_end true q = absurd (not-both-ways f (ap (λ (x : Reading). x.found) (at-end true q)))
      by_end false q = let h : content_place p + 64 ≤ length image = room q in (omega (arith, h), ap (λ (x : Reading). x.next) (at-end false q))

  pub content-is : pick r.found (part image r.start 64) [] ≡ content_at image p
  content-is = by_end (at_end image p) refl
    where
      by_end : (b : Bool) → at_end image p ≡ b → pick r.found (part image r.start 64) [] ≡ content_at image p
      by_end true q = ap (λ (x : Reading). pick x.found (part image x.start 64) []) (at-end true q) ∙ sym (content-by true q)
      by_end false q = ap (λ (x : Reading). pick x.found (part image x.start 64) []) (at-end false q) ∙ sym (content-by false q)

-- the end is found only at the end
pub end_stays : (image : List ℕ) (p q : ℕ) → record { found = false; leaf = 0; start = 0; next = q } ≡ reading_at image p → the_end p ≡ reading_at image p
unfolding reading_at
end_stays image p q e = by_end (at_end image p) refl
  where
    by_end : (b : Bool) → at_end image p ≡ b → the_end p ≡ pick (at_end image p) (the_end p) (the_record image p)
    by_end true h = rw h
    by_end false h = let f : false ≡ true = ap (λ (x : Reading). x.found) (e ∙ ap (λ (b : Bool). pick b (the_end p) (the_record image p)) h) in absurd (not-both-ways {b = false} f refl)
