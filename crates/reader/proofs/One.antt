-- Each promise of this crate allows one result for one input: what is read, the image's bytes and the place each equal a definition.
use Rattle.std.proofs.Common.{◌≡◌, ℕ, List, false, refl, ap, sym, ◌∙◌, arith, Option, Some, None, Result, Ok, Err}
use Rattle.laws.specs.declared.Refusal.{Refusal}
use Rattle.laws.specs.Refusal.{number, refused_with}
use Rattle.laws.proofs.Choice.{not-both-ways}
use Rattle.laws.proofs.Told.{number-one, number-some}
use Rattle.image.specs.Test.{image_test}
use Rattle.image.specs.Calls.{opened_image}
use Rattle.reader.specs.declared.Found.{Found}
use Rattle.reader.specs.declared.Start.{Start}
use Rattle.reader.specs.declared.Reader.{Reader}
use Rattle.reader.specs.declared.Record.{Record}
use Rattle.reader.specs.Read.{Reading, Opened, reading_of, reading_at, opened_reader}
use Rattle.reader.specs.Told.{image_of, place_of, started, recorded, content_of, NextRecord}
use Rattle.geometry.proofs.One.{one}

-- what is found is one by its numbers
reading-one : (p : ℕ) (r s : Option Found) → reading_of p r ≡ reading_of p s → r ≡ s
reading-one p None None e = refl
reading-one p None (Some g) e = absurd (not-both-ways {b = false} (ap (λ (x : Reading). x.found) e) refl)
reading-one p (Some f) None e = absurd (not-both-ways {b = false} (sym (ap (λ (x : Reading). x.found) e)) refl)
reading-one p (Some f) (Some g) e = λ i. Some (record { leaf = (e i).leaf; start = (e i).start; next = (e i).next })

started-one : (r s : Result Start Refusal) → started r ≡ started s → r ≡ s
started-one (Ok a) (Ok b) e = λ i. Ok (record { length = (e i).length; place = (e i).place })
started-one (Ok a) (Err d) e = let z : 0 ≡ number d = ap (λ (x : Opened). x.refusal) e in absurd (omega (arith, z, number-some d))
started-one (Err c) (Ok b) e = let z : number c ≡ 0 = ap (λ (x : Opened). x.refusal) e in absurd (omega (arith, z, number-some c))
started-one (Err c) (Err d) e = ap Err (number-one c d (ap (λ (x : Opened). x.refusal) e))

-- of `read_at` and `record_at`
pub read-at-one : (image : List ℕ) (place : ℕ) {r s : Option Found} → reading_of place r ≡ reading_at image place → reading_of place s ≡ reading_at image place → r ≡ s
read-at-one image place {r} {s} a b = reading-one place r s (a ∙ sym b)

pub open-one : (image : List ℕ) (r s : Result Reader Refusal)
    → (image_of r ≡ opened_image image) × (place_of r ≡ 0) × (refused_with r ≡ image_test image)
    → (image_of s ≡ opened_image image) × (place_of s ≡ 0) × (refused_with s ≡ image_test image)
    → (image_of r ≡ image_of s) × (place_of r ≡ place_of s) × (refused_with r ≡ refused_with s)
open-one image r s x y = (one x.0 y.0, one x.1 y.1, one x.2 y.2)

pub opening-one : (image : List ℕ) {r s : Result Start Refusal} → started r ≡ opened_reader image → started s ≡ opened_reader image → r ≡ s
opening-one image {r} {s} a b = started-one r s (a ∙ sym b)

-- of a reader's `next`: what it tells, and the reader that it leaves
pub next-one : (reader : Reader) (r s : Option Record) (t u : Reader) → NextRecord reader r t → NextRecord reader s u
    → (recorded t.place r ≡ recorded u.place s) × (content_of r ≡ content_of s) × (t.image ≡ u.image)
next-one reader r s t u x y = (x.0 ∙ sym y.0, x.1 ∙ sym y.1, x.2 ∙ sym y.2)
