-- Each promise of this crate allows one result for one input: what C is given, and the lent bytes and words, equal a definition.
-- Of the cache's calls the laws are those that harness and running have for C, of libhost.a's six those of host.
use mathlib.Core.Path.{◌≡◌, sym, ap, ◌∙◌}
use mathlib.Core.List.{List}
use Prim.Native.Nat.{ℕ}
use lib.ListN.{length}
use Rattle.geometry.proofs.One.{one}
use Rattle.image.specs.Calls.{writing_answer, written, restored}
use Rattle.prediction.specs.Calls.{Lent, Done, done, fresh, read, write, synchronise}
use Rattle.salvage.specs.Salvage.{Numbered, numbered, salvaging, as_number, listed_number}
use Rattle.model.specs.Archive.{restoring_answer, reader_opened, record_read}

-- images and their reader
pub tag-write-image-one : (n : ℕ) (memory output : List ℕ) {r s : ℕ} {o p : List ℕ} → (r ≡ writing_answer n memory (length output)) × (o ≡ written n memory output)
    → (s ≡ writing_answer n memory (length output)) × (p ≡ written n memory output) → (r ≡ s) × (o ≡ p)
tag-write-image-one n memory output a b = (one a.0 b.0, one a.1 b.1)

pub tag-restore-one : (image memory : List ℕ) {r s : ℕ} {m l : List ℕ} → (r ≡ restoring_answer image (length memory)) × (m ≡ restored image memory)
    → (s ≡ restoring_answer image (length memory)) × (l ≡ restored image memory) → (r ≡ s) × (m ≡ l)
tag-restore-one image memory a b = (one a.0 b.0, one a.1 b.1)

pub tag-open-reader-one : (image words : List ℕ) {x y : ℕ × List ℕ} → x ≡ reader_opened image words → y ≡ reader_opened image words → x ≡ y
tag-open-reader-one image words = one

pub tag-record-one : (image : List ℕ) (p : ℕ) (words : List ℕ) {x y : ℕ × List ℕ} → x ≡ record_read image p words → y ≡ record_read image p words → x ≡ y
tag-record-one image p words = one

-- prediction: the answer, and the tags and bits that are left
predicted-one : {d : Done} {r s : ℕ} (l m : Lent) → done r l ≡ d → done s m ≡ d → (r ≡ s) × (l ≡ m)
predicted-one {r = r} {s = s} l m p q =
    let e : done r l ≡ done s m = one p q in
    (ap (λ (d : Done). d.answer) e, ap (λ (d : Done). d.lent) e)

module _ (n c : ℕ) (old : Lent) where
  pub tag-predict-fresh-one : {r s : ℕ} (l m : Lent) → done r l ≡ fresh n c old → done s m ≡ fresh n c old → (r ≡ s) × (l ≡ m)
  tag-predict-fresh-one = predicted-one

  pub tag-predict-read-one : (g : ℕ) {r s : ℕ} → r ≡ read n c old g → s ≡ read n c old g → r ≡ s
  tag-predict-read-one g = one

  pub tag-predict-write-one : (g v : ℕ) {r s : ℕ} (l m : Lent) → done r l ≡ write n c old g v → done s m ≡ write n c old g v → (r ≡ s) × (l ≡ m)
  tag-predict-write-one g v = predicted-one

  pub tag-predict-sync-one : (run : ℕ) {r s : ℕ} (l m : Lent) → done r l ≡ synchronise n c old run → done s m ≡ synchronise n c old run → (r ≡ s) × (l ≡ m)
  tag-predict-sync-one run = predicted-one

-- salvage
pub tag-salvage-one : (image output list : List ℕ) {r s : ℕ} {o p l m : List ℕ} → numbered r o l ≡ as_number (salvaging image output list)
    → numbered s p m ≡ as_number (salvaging image output list) → (r ≡ s) × (o ≡ p) × (l ≡ m)
tag-salvage-one image output list {r = r} {s = s} {o = o} {p = p} {l = l} {m = m} a b =
    let e : numbered r o l ≡ numbered s p m = one a b in
    (ap (λ (t : Numbered). t.number) e, ap (λ (t : Numbered). t.output) e, ap (λ (t : Numbered). t.list) e)

pub tag-salvage-listed-one : (image : List ℕ) {r s : ℕ} → r ≡ listed_number image → s ≡ listed_number image → r ≡ s
tag-salvage-listed-one image = one
