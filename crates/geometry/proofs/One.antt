-- Each promise of `Geometry` and `Shape` allows one result for one input: it is an equation to a definition.
use mathlib.Core.Path.{◌≡◌, sym, ◌∙◌}
use mathlib.Core.Bool.{Bool}
use Prim.Native.Nat.{ℕ, ◌+◌}
use Rattle.geometry.specs.declared.Shape.{Shape}
use Rattle.geometry.specs.Shape.{shape_of, at_hand, below_top, top_of}
use Rattle.geometry.specs.TagMemory.{leaf_of, groups, byte_of, in_limits_of, in_limits, map_block_of, map_byte_of, map_bit_of, index, map_blocks, block_over, blocks_of, length_of, memory_length, block_place, group_place, map_place}

-- two results that equal one value are equal
pub one : {A : Type 0} {d r s : A} → r ≡ d → s ≡ d → r ≡ s
one p q = p ∙ sym q

pub in-limits-of-one : (top n : ℕ) {r s : Bool} → r ≡ in_limits_of top n → s ≡ in_limits_of top n → r ≡ s
in-limits-of-one top n = one

pub in-limits-one : (n : ℕ) {r s : Bool} → r ≡ in_limits n → s ≡ in_limits n → r ≡ s
in-limits-one n = one

pub leaf-of-one : (g : ℕ) {r s : ℕ} → r ≡ leaf_of g → s ≡ leaf_of g → r ≡ s
leaf-of-one g = one

pub groups-one : (n : ℕ) {r s : ℕ} → r ≡ groups n → s ≡ groups n → r ≡ s
groups-one n = one

pub byte-of-one : (g : ℕ) {r s : ℕ} → r ≡ byte_of g → s ≡ byte_of g → r ≡ s
byte-of-one g = one

pub map-block-of-one : (k : ℕ) {r s : ℕ} → r ≡ map_block_of k → s ≡ map_block_of k → r ≡ s
map-block-of-one k = one

pub map-byte-of-one : (k : ℕ) {r s : ℕ} → r ≡ map_byte_of k → s ≡ map_byte_of k → r ≡ s
map-byte-of-one k = one

pub map-bit-of-one : (k : ℕ) {r s : ℕ} → r ≡ map_bit_of k → s ≡ map_bit_of k → r ≡ s
map-bit-of-one k = one

pub index-one : (e g : ℕ) {r s : ℕ} → r ≡ index e g → s ≡ index e g → r ≡ s
index-one e g = one

pub map-blocks-one : (n : ℕ) {r s : ℕ} → r ≡ map_blocks n → s ≡ map_blocks n → r ≡ s
map-blocks-one n = one

pub block-over-one : (e n g : ℕ) {r s : ℕ} → r ≡ block_over e n g → s ≡ block_over e n g → r ≡ s
block-over-one e n g = one

pub blocks-of-one : (top n : ℕ) {r s : ℕ} → r ≡ blocks_of top n → s ≡ blocks_of top n → r ≡ s
blocks-of-one top n = one

pub length-of-one : (top n : ℕ) {r s : ℕ} → r ≡ length_of top n → s ≡ length_of top n → r ≡ s
length-of-one top n = one

pub memory-length-one : (n : ℕ) {r s : ℕ} → r ≡ memory_length n → s ≡ memory_length n → r ≡ s
memory-length-one n = one

pub map-number-one : (n k : ℕ) {r s : ℕ} → r ≡ n + map_block_of k → s ≡ n + map_block_of k → r ≡ s
map-number-one n k = one

pub block-place-one : (b : ℕ) {r s : ℕ} → r ≡ block_place b → s ≡ block_place b → r ≡ s
block-place-one b = one

pub group-place-one : (g : ℕ) {r s : ℕ} → r ≡ group_place g → s ≡ group_place g → r ≡ s
group-place-one g = one

pub map-place-one : (n k : ℕ) {r s : ℕ} → r ≡ map_place n k → s ≡ map_place n k → r ≡ s
map-place-one n k = one

pub start-one : (n t l : ℕ) {r s : Shape} → r ≡ shape_of n t l → s ≡ shape_of n t l → r ≡ s
start-one n t l = one

pub below-top-one : (shape : Shape) {r s : ℕ} → r ≡ below_top shape → s ≡ below_top shape → r ≡ s
below-top-one shape = one

pub top_one : (shape : Shape) {r s : ℕ} → r ≡ top_of shape → s ≡ top_of shape → r ≡ s
top_one shape = one

pub at-hand-one : (shape : Shape) (h : ℕ) {r s : Shape} → r ≡ at_hand shape h → s ≡ at_hand shape h → r ≡ s
at-hand-one shape h = one
