-- 01 "Archive image" and 02 E2: the bytes of an image of n leaves and a list of records, and the records of a memory. The form is a parameter.
use Rattle.std.specs.Prelude.{List, [], ◌∷◌, ◌++◌, ◌≡◌, ℕ, zero, suc, ◌+◌, ◌*◌, ◌/◌, ◌-◌, ◌≤◌, ◌<◌, length, get_or, replicate, eqb, leb}
use Rattle.laws.specs.Choice.{pick, both}
use Rattle.laws.specs.Bytes.{part, bytes}
use Rattle.memory.specs.PlainReading.{leaf_bit}
use Rattle.memory.specs.True.{block_at}
use Rattle.sums.specs.Check.{check_of}

-- what one version of the image has of its own: the modulus of its checks, its number, and the bytes that follow the head's sixteen
pub record Form : Type 0 where
  pub modulus : ℕ
  pub version : ℕ
  pub after : List ℕ

-- "version 1 ..; a = (a + w) mod 65,535, then b = (b + a) mod 65,535"
unfoldable pub version1 : Form
version1 = record { modulus = 65535; version = 1; after = [] }

-- 02: "Version 2 images take both sums modulo 65,536."
unfoldable pub version2 : Form
version2 = record { modulus = 65536; version = 2; after = [] }

-- 02: "version 1 still reads by its old rule; .. a head of any other version is checked by the new rule"
unfoldable pub form_for : ℕ → Form
form_for version = pick (eqb version 1) version1 version2

-- a form whose sums, number and bytes have their places
pub record Fit (F : Form) : Type 0 where
  pub some : 1 < F.modulus
  pub most : F.modulus ≤ 65536
  pub number : F.version < 65536
  pub room : length F.after ≤ 492

-- a record: "the leaf number (4 bytes) and its 64 bytes"
pub record Record : Type 0 where
  pub leaf : ℕ
  pub content : List ℕ

abbrev pub record_bytes : Record → List ℕ
record_bytes r = bytes 4 r.leaf ++ r.content

-- what is read past the end of a list of records
abbrev pub none : Record
none = record { leaf = 0; content = [] }

-- every record of a list has 64 bytes
unfoldable pub Sized : List Record → Type 0
Sized rs = (p : ℕ) → p < length rs → length (get_or rs p none).content ≡ 64

-- the bytes of c records of a list, from record a on
unfoldable pub records_bytes : List Record → ℕ → ℕ → List ℕ
records_bytes rs a zero = []
records_bytes rs a (suc c) = records_bytes rs a c ++ record_bytes (get_or rs (a + c) none)

-- "Bytes 508 to 511: check": 508 bytes with theirs
abbrev pub sealed : ℕ → List ℕ → List ℕ
sealed M front = front ++ check_of M front

-- "Bytes 0 to 3: block number from 0. Bytes 4 to 5: kind. .. Block 0 has kind 1, version 1 in bytes 6 to 7, n in 8 to 11, m (leaves with bit 1) in 12 to 15, zeros after."
abbrev pub head_front : Form → ℕ → ℕ → List ℕ
head_front F n m = bytes 4 0 ++ (bytes 2 1 ++ (bytes 2 F.version ++ (bytes 4 n ++ bytes 4 m)))

abbrev pub head_rest : Form → List ℕ
head_rest F = F.after ++ replicate (492 - length F.after) 0

unfoldable pub head_of : Form → ℕ → ℕ → List ℕ
head_of F n m = sealed F.modulus (head_front F n m ++ head_rest F)

-- a row that is a block, made the head
unfoldable pub headed : Form → List ℕ → ℕ → ℕ → List ℕ
headed F row n m = pick (eqb (length row) 512) (head_of F n m) row

-- "Each later block has kind 2, its record count in bytes 6 to 7, records from byte 8 .. Unused bytes are zero."
abbrev pub block_front : ℕ → ℕ → List ℕ
block_front j c = bytes 4 j ++ (bytes 2 2 ++ bytes 2 c)

unfoldable pub block_with : ℕ → ℕ → ℕ → List ℕ → List ℕ
block_with M j c R = sealed M ((block_front j c ++ R) ++ replicate (500 - 68 * c) 0)

-- a row in which c records stand in their places, closed as block j; a row that is no block, or more than 7 records, stay
unfoldable pub closed : ℕ → List ℕ → ℕ → ℕ → List ℕ
closed M row j c = pick (both (eqb (length row) 512) (leb c 7)) (block_with M j c (part row 8 (68 * c))) row

-- block j with c records of a list, from record a on
abbrev pub block_of : ℕ → ℕ → List Record → ℕ → ℕ → List ℕ
block_of M j rs a c = block_with M j c (records_bytes rs a c)

-- "every block but the last has 7, the last 1 to 7": of `left` records the next block has
unfoldable pub next7 : ℕ → ℕ
next7 left = pick (leb left 7) left 7

-- record blocks 1 to j
unfoldable pub record_blocks : ℕ → List Record → ℕ → List ℕ
record_blocks M rs zero = []
record_blocks M rs (suc j) = record_blocks M rs j ++ block_of M (suc j) rs (7 * j) (next7 (length rs - 7 * j))

-- the record blocks of m records: "m = 0 gives one block; m = 7 two; m = 8 three", the head among them
abbrev pub blocks_for : ℕ → ℕ
blocks_for m = (m + 6) / 7

unfoldable pub encode : Form → ℕ → List Record → List ℕ
encode F n rs = head_of F n (length rs) ++ record_blocks F.modulus rs (blocks_for (length rs))

-- the record of leaf k of a memory
abbrev pub record_of : List ℕ → ℕ → Record
record_of mem k = record { leaf = k; content = block_at mem k }

-- the records of the leaves with bit 1 below leaf k, rising
unfoldable pub records_below : ℕ → List ℕ → ℕ → List Record
records_below n mem zero = []
records_below n mem (suc k) = records_below n mem k ++ pick (eqb (leaf_bit n mem k) 1) (record_of mem k ∷ []) []

abbrev pub records_of : ℕ → List ℕ → List Record
records_of n mem = records_below n mem n

-- 02: "We write version 2 only": the image of a memory of n leaves, and what the old writer wrote
abbrev pub image_of : ℕ → List ℕ → List ℕ
image_of n mem = encode version2 n (records_of n mem)

abbrev pub old_image_of : ℕ → List ℕ → List ℕ
old_image_of n mem = encode version1 n (records_of n mem)
