-- Leaf on the view of rows: a read, a write of what is there, and a write that puts a value into its leaf, under bit 1 or under bit 0.
use mathlib.Core.Path.{◌≡◌, refl, sym, ap, ◌∙◌, subst}
use mathlib.Core.Bool.{Bool, true, false}
use mathlib.Core.List.{List}
use mathlib.Core.Logic.{⊎_elim}
use Prim.Native.Nat.{ℕ, ◌<◌}
use native.Mathlib.Nat.{zero-add}
use native.Mathlib.Omega.{arith}
use native.Mathlib.Decide.{ℕ_discrete}
use lib.Dec.{eqb}
use lib.ListN.{length, set}
use borrow.Author.Tests.{eqb-true}
use Rattle.laws.specs.Choice.{pick, no as negated}
use Rattle.laws.proofs.Choice.{not-both-ways, true-or-false, no-of-true, no-of-false}
use Rattle.geometry.specs.declared.Shape.{Shape}
use Rattle.geometry.specs.Shape.{below_top, top_of}
use Rattle.geometry.specs.TagMemory.{leaf_of, byte_of, block_on, blocks_of}
use Rattle.geometry.proofs.Places.{leaf_of-lt, byte_of-lt, group-lt}
use Rattle.geometry.proofs.Levels.{index-0}
use Rattle.block.specs.Block.{group_at, put_group, all_zero}
use Rattle.tracker.specs.declared.Phase.TheVariants.{Under}
use Rattle.tracker.specs.declared.Tracker.{Tracker}
use Rattle.tracker.specs.Transfers.{none}
use Rattle.tracker.specs.Answer.{read}
use Rattle.line.specs.Word.{word}
use Rattle.rules.specs.State.{Rows}
use Rattle.rules.specs.Place.{line_bytes, Brought, with_lines, bring_in, create}
use Rattle.rules.specs.Step.{Turned, turns_of, own_line, group_in, bit_in, let_go, write_under1, write_under0, new_leaf, under, zeros}
use Rattle.rules.proofs.Lined.{Has, low}
use Rattle.rules.proofs.Blocks.{Has64, block-length}
use Rattle.rules.proofs.Ways.{top_held, leaf_read-is, write1-same, write1-put, write0-same, write0-create, leaf_write-0, leaf_write-1, under-read, under-write, bytes_with, put_in-empty, put_in-done}
use Rattle.flat.specs.Flat.{Row, tagged, after, changes_nothing, by_tags, Course}
use Rattle.flat.proofs.Course.{reads_nothing, answer-read, same-nothing, answer-same, other-something, answer-done, after_write, after-here}
use Rattle.flat.proofs.Tags.{tagged-at, tagged-leaf}
use Rattle.flat.proofs.Views.{group-here, group-there, group-whole, group-length, put-groups, put-long, zeros-long, new-leaf}
use Rattle.flat.proofs.Contents.{content, Good, content-in, Same, Marked}
use Rattle.flat.proofs.Rows.{Only, only_then, only-marked, line-64, Writing, written-only, written-here, freed-only, freed-gone, Comes, brings-in, creates}
use Rattle.flat.proofs.Contained.{View}
use Rattle.flat.proofs.Does.{leaf_in, decides, Else, Brought as BroughtIn, PutLeaf, DoesLeaf}
use Rattle.flat.proofs.Viewed.{view_of, Between, group-is, lined-has, stays_of, else-of, brought-of, between-of, between-same}
use Rattle.flat.proofs.Steps.{Relies, seen, Says, Turns, block-ok, leaf-is, bit_is, bit-no, group-read, line-above, let-go}

says_at : {row : Row} {u : Tracker} {c c' : Course} {o : Turned} → c ≡ c' → Says row u c' o → Says row u c o
says_at e S = rw e S

module _ {shape : Shape} {x : ℕ} {u : Tracker} {r : Rows} (R : Relies shape x u r) (ph : u.phase ≡ Under 0) where
  abbrev n : ℕ
  n = shape.n

  abbrev l : ℕ
  l = shape.l

  abbrev B : ℕ
  B = blocks_of (top_of shape) n

  abbrev g : ℕ
  g = u.group

  abbrev leaf : ℕ
  leaf = leaf_of g

  abbrev view : Rows → View
  view rr = view_of (top_of shape) n l rr

  abbrev out : Turned
  out = under shape x 0 u r

  leaf-lt : leaf < n
  leaf-lt = leaf_of-lt n g R.group-lt

  leaf-ok : leaf < B
  leaf-ok = rw (sym (leaf-is R)) (block-ok R 0 (omega arith))

  -- the groups of its leaf
  leaf-group : (rr : Rows) (h : ℕ) → leaf_of h ≡ leaf → (view rr).group h ≡ group_at (content l rr leaf) (byte_of h)
  leaf-group rr h e = group-is (top_of shape) n l rr h (group-lt n h (rw e leaf-lt)) ∙ ap (λ (k : ℕ). group_at (content l rr k) (byte_of h)) e

  gone : (rr : Rows) → ((j : ℕ) → Has rr.lines j leaf → ⊥) → (view rr).lined 0 leaf ≡ true → ⊥
  gone rr none e = none _ (subst (Has rr.lines _) (zero-add leaf) (lined-has (top_of shape) n l rr 0 leaf e))

  -- its leaf alone may change
  module _ {rr : Rows} (o : Only B l r rr leaf) where
    only-0 : Only B l r rr (block_on 0 n leaf)
    only-0 = subst (Only B l r rr) (sym (zero-add leaf)) o

    leaf-else : Else (view r) (view rr) 0 leaf
    leaf-else = else-of (top_of shape) n rr R.good 0 leaf (omega arith) leaf-lt only-0

    leaf-brought : content l rr leaf ≡ content l r leaf → BroughtIn (view r) (view rr) 0 leaf
    leaf-brought e = brought-of (top_of shape) n rr R.good 0 leaf (omega arith) leaf-lt only-0 (subst (λ (k : ℕ). content l rr k ≡ content l r k) (sym (zero-add leaf)) e)

    leaf-between : Between (top_of shape) n l rr
    leaf-between = between-of (top_of shape) n rr R.good 0 leaf (omega arith) leaf-lt only-0 R.between (λ p q. absurd (omega (arith, leaf-lt)))

  -- the leaf brought in
  abbrev b : Brought
  b = bring_in shape leaf r

  C : Comes B l r leaf (content l r leaf) b
  C = brings-in shape r leaf R.good R.place-lt leaf-ok R.small

  G : Good B l b.rows
  G = C.only.good

  line-lt : b.line < l
  line-lt = low G.apart _ _ C.has-it

  there : group_in b.rows.bytes b.line g ≡ (view r).group g
  there = group-read R G b.line C.has-it ∙ leaf-group b.rows g refl ∙ ap (λ (c : List ℕ). group_at c (byte_of g)) C.here ∙ sym (leaf-group r g refl)

  -- brought in, and let go
  abbrev brought-rows : Rows
  brought-rows = with_lines b.rows (let_go u.phase (own_line shape u r) (top_of b.shape) b.rows.lines)

  brought-go : Marked B l b.rows brought-rows
  brought-go = let-go R G u.phase (own_line shape u r) (top_of b.shape)

  brought-only : Only B l r brought-rows leaf
  brought-only = only-marked C.only brought-go

  brought-leaf : BroughtIn (view r) (view brought-rows) 0 leaf
  brought-leaf = leaf-brought brought-only (brought-go.same.same leaf leaf-ok ∙ C.here)

  above-lt : own_line shape u r 1 < l
  above-lt = low R.good.apart _ _ (line-above R 0 ph)

  -- what it decides
  abbrev course : Course
  course = decides (below_top shape) (view r) (top_held shape u r) u (Under 0)

  quits : changes_nothing (leaf_in (view r) u) u ≡ true → course ≡ Course.ends
  quits e = rw e

  puts-in : (was now : Bool) → changes_nothing (leaf_in (view r) u) u ≡ false → (view r).bits 0 leaf ≡ was → tagged (after (leaf_in (view r) u) u) leaf ≡ now → course ≡ by_tags was now
  puts-in was now e a c = rw (e, a, c)

  turns-read : u.write ≡ false → Turns shape r u (Under 0) out
  turns-read w = rw (under-read shape x u r above-lt w, leaf_read-is shape u r line-lt) (record {
    decided = says_at (quits (reads_nothing (leaf_in (view r) u) u w)) (record {
      said-is = ap (λ (z : ℕ). read z (turns_of u)) (there ∙ rw w) ∙ sym (answer-read (seen (view r) u (Under 0)) u w);
      tracker-is = refl;
    });
    good = brought-go.same.good;
    between = leaf-between brought-only;
    does = record {
      reads = λ _. brought-leaf;
      same-1 = λ t. absurd (not-both-ways t w);
      same-0 = λ t. absurd (not-both-ways t w);
      puts = λ f. absurd (not-both-ways (reads_nothing (leaf_in (view r) u) u w) f);
    };
  })

  module _ (wr : u.write ≡ true) where
    -- the group as a write sees it
    sees : seen (view r) u (Under 0) g ≡ leaf_in (view r) u g
    sees = rw wr

    above-bit : eqb (bit_in r.bytes (own_line shape u r 1) 0 g) 1 ≡ (view r).bits 0 leaf
    above-bit = bit_is R R.good 0 (own_line shape u r 1) (omega arith) (line-above R 0 ph) ∙ ap ((view r).bits 0) (index-0 g)

    above-no : eqb (bit_in r.bytes (own_line shape u r 1) 0 g) 0 ≡ negated ((view r).bits 0 leaf)
    above-no = bit-no R R.good 0 (own_line shape u r 1) (omega arith) (line-above R 0 ph) ∙ ap (λ (k : ℕ). negated ((view r).bits 0 k)) (index-0 g)

    -- a value that is put in
    does-puts : (rr : Rows) → changes_nothing (leaf_in (view r) u) u ≡ false → PutLeaf (view r) (view rr) u → DoesLeaf (view r) (view rr) u
    does-puts rr e P = record {
      reads = λ f. absurd (not-both-ways wr f);
      same-1 = λ _ _ f. absurd (not-both-ways f e);
      same-0 = λ _ _ f. absurd (not-both-ways f e);
      puts = λ _. P;
    }

    -- under bit 1
    module _ (bt : (view r).bits 0 leaf ≡ true) where
      leaf-in : (h : ℕ) → leaf_in (view r) u h ≡ (view r).group h
      leaf-in h = rw bt

      under-1 : out ≡ write_under1 shape u r
      under-1 = under-write shape x u r above-lt wr ∙ leaf_write-1 shape u r (λ z. let y : bit_in r.bytes (own_line shape u r 1) 0 g ≡ 1 = eqb-true _ _ (above-bit ∙ bt) in omega arith)

      turns-same-1 : (view r).group g ≡ u.value → Turns shape r u (Under 0) out
      turns-same-1 e = rw (under-1, write1-same shape u r line-lt (there ∙ e)) (record {
        decided = says_at (quits nothing) (record { said-is = sym (answer-same (seen (view r) u (Under 0)) u wr (sees ∙ leaf-in g ∙ e)); tracker-is = refl });
        good = brought-go.same.good;
        between = leaf-between brought-only;
        does = record {
          reads = λ f. absurd (not-both-ways wr f);
          same-1 = λ _ _ _. brought-leaf;
          same-0 = λ _ f. absurd (not-both-ways bt f);
          puts = λ f. absurd (not-both-ways nothing f);
        };
      })
        where
          nothing : changes_nothing (leaf_in (view r) u) u ≡ true
          nothing = same-nothing (leaf_in (view r) u) u wr (leaf-in g ∙ e)

      -- v put into the line
      module _ (ne : (view r).group g ≡ u.value → ⊥) where
        abbrev leaf_bytes : List ℕ
        leaf_bytes = line_bytes b.rows.bytes b.line

        abbrev with_v : List ℕ
        with_v = put_group leaf_bytes (byte_of g) u.value

        bytes-are : leaf_bytes ≡ content l r leaf
        bytes-are = sym (content-in G b.line leaf C.has-it) ∙ C.here

        b64 : Has64 b.rows.bytes b.line
        b64 = line-64 G b.line line-lt

        in-line : line_bytes (bytes_with u b) b.line ≡ with_v
        in-line = group-here b.rows.bytes b.line b64 (byte_of g) u.value (byte_of-lt g)

        put-write : Writing B l b.rows b.line leaf (bytes_with u b) with_v
        put-write = record {
          has-it = C.has-it;
          small = R.small;
          long = group-whole b.rows.bytes b.line b64 (byte_of g) u.value (byte_of-lt g);
          here = in-line;
          there = λ i q m. group-there b.rows.bytes b.line b64 (byte_of g) u.value (byte_of-lt g) i (line-64 G i q) m;
        }

        v-long : length with_v ≡ 64
        v-long = group-length b.rows.bytes b.line b64 (byte_of g) u.value (byte_of-lt g)

        something : changes_nothing (leaf_in (view r) u) u ≡ false
        something = other-something (leaf_in (view r) u) u wr (λ z. ne (sym (leaf-in g) ∙ z))

        new-groups : (h : ℕ) → leaf_of h ≡ leaf → after (leaf_in (view r) u) u h ≡ group_at with_v (byte_of h)
        new-groups h e =
            ap (λ (row : Row). row h) (after_write (leaf_in (view r) u) u wr)
            ∙ ap (pick (eqb h g) u.value) (leaf-in h ∙ leaf-group r h e ∙ ap (λ (c : List ℕ). group_at c (byte_of h)) (sym bytes-are))
            ∙ sym (put-groups leaf_bytes (block-length b.rows.bytes b.line b64) g h u.value R.value-lt e)

        tag_is : tagged (after (leaf_in (view r) u) u) leaf ≡ negated (all_zero with_v)
        tag_is = tagged-leaf (after (leaf_in (view r) u) u) leaf with_v v-long new-groups

        abbrev emptied : Rows
        emptied = record { lines = set b.rows.lines b.line 0; bytes = bytes_with u b; memory = b.rows.memory }

        turns-empty : all_zero with_v ≡ true → Turns shape r u (Under 0) out
        turns-empty z = rw (under-1, write1-put shape u r line-lt (λ q. ne (sym there ∙ q)), put_in-empty (own_line shape u r) u b (ap all_zero in-line ∙ z)) (record {
          decided = says_at (puts-in true false something bt off) (record { said-is = refl; tracker-is = refl });
          good = empty-only.good;
          between = leaf-between empty-only;
          does = does-puts _ something (record {
            only = leaf-else empty-only;
            groups = λ o. absurd (⊎_elim (λ e. not-both-ways e off) (λ e. gone emptied (freed-gone G put-write) e) o);
            dropped = λ _ e. gone emptied (freed-gone G put-write) e;
          });
        })
          where
            off : tagged (after (leaf_in (view r) u) u) leaf ≡ false
            off = tag_is ∙ no-of-true z

            empty-only : Only B l r emptied leaf
            empty-only = only_then C.only refl (freed-only G put-write)

        -- the leaf has a tag still
        abbrev written : Rows
        written = record { lines = set b.rows.lines b.line (word leaf true 0); bytes = bytes_with u b; memory = b.rows.memory }

        W : Only B l b.rows written leaf
        W = written-only G put-write 0 (omega arith)

        abbrev kept-rows : Rows
        kept-rows = with_lines written (let_go u.phase (own_line shape u r) (top_of b.shape) written.lines)

        kept-go : Marked B l written kept-rows
        kept-go = let-go R W.good u.phase (own_line shape u r) (top_of b.shape)

        kept-only : Only B l r kept-rows leaf
        kept-only = only-marked (only_then C.only refl W) kept-go

        turns-kept : all_zero with_v ≡ false → Turns shape r u (Under 0) out
        turns-kept z = rw (under-1, write1-put shape u r line-lt (λ q. ne (sym there ∙ q)), put_in-done (own_line shape u r) u b (ap all_zero in-line ∙ z)) (record {
          decided = says_at (puts-in true true something bt on) (record { said-is = sym (answer-done (seen (view r) u (Under 0)) u wr (λ q. ne (sym (leaf-in g) ∙ sym sees ∙ q))); tracker-is = refl });
          good = kept-go.same.good;
          between = leaf-between kept-only;
          does = does-puts _ something (record {
            only = leaf-else kept-only;
            groups = λ _ h e. leaf-group kept-rows h e ∙ ap (λ (c : List ℕ). group_at c (byte_of h)) (kept-go.same.same leaf leaf-ok ∙ written-here G put-write 0 (omega arith)) ∙ sym (new-groups h e);
            dropped = λ f. absurd (not-both-ways on f);
          });
        })
          where
            on : tagged (after (leaf_in (view r) u) u) leaf ≡ true
            on = tag_is ∙ no-of-false z

      turns-1 : Turns shape r u (Under 0) out
      turns-1 = go (ℕ_discrete ((view r).group g) u.value)
        where
          go : Dec ((view r).group g ≡ u.value) → Turns shape r u (Under 0) out
          go (yes e) = turns-same-1 e
          go (no e) = ⊎_elim (turns-empty e) (turns-kept e) (true-or-false (all_zero (with_v e)))

    -- under bit 0: the old content is 64 zero bytes
    module _ (bf : (view r).bits 0 leaf ≡ false) where
      leaf-0 : (h : ℕ) → leaf_in (view r) u h ≡ 0
      leaf-0 h = rw bf

      under-0 : out ≡ write_under0 shape u r
      under-0 = under-write shape x u r above-lt wr ∙ leaf_write-0 shape u r (eqb-true _ _ (above-no ∙ no-of-false bf))

      turns-same-0 : u.value ≡ 0 → Turns shape r u (Under 0) out
      turns-same-0 e = rw (under-0, write0-same shape u r e) (record {
        decided = says_at (quits nothing) (record { said-is = sym (answer-same (seen (view r) u (Under 0)) u wr (sees ∙ leaf-0 g ∙ sym e)); tracker-is = refl });
        good = S.good;
        between = between-same (top_of shape) n _ R.good S R.between;
        does = record {
          reads = λ f. absurd (not-both-ways wr f);
          same-1 = λ _ t. absurd (not-both-ways t bf);
          same-0 = λ _ _ _. stays_of (top_of shape) n _ R.good S;
          puts = λ f. absurd (not-both-ways nothing f);
        };
      })
        where
          nothing : changes_nothing (leaf_in (view r) u) u ≡ true
          nothing = same-nothing (leaf_in (view r) u) u wr (leaf-0 g ∙ sym e)

          S : Same B l r (with_lines r (let_go u.phase (own_line shape u r) (top_of shape) r.lines))
          S = (let-go R R.good u.phase (own_line shape u r) (top_of shape)).same

      turns-new : (u.value ≡ 0 → ⊥) → Turns shape r u (Under 0) out
      turns-new nz = rw (under-0, write0-create shape u r nz (low N.only.good.apart _ _ N.has-it)) (record {
        decided = says_at (puts-in false true something bf on) (record { said-is = refl; tracker-is = refl });
        good = N.only.good;
        between = leaf-between N.only;
        does = does-puts _ something (record {
          only = leaf-else N.only;
          groups = λ _ h e. leaf-group _ h e ∙ ap (λ (c : List ℕ). group_at c (byte_of h)) N.here
              ∙ sym (ap (λ (row : Row). row h) (after_write (leaf_in (view r) u) u wr) ∙ new-leaf (leaf_in (view r) u) g h u.value R.value-lt e (leaf-0 h));
          dropped = λ f. absurd (not-both-ways on f);
        });
      })
        where
          N : Comes B l r leaf (new_leaf u) (create shape leaf (new_leaf u) r)
          N = creates shape r leaf R.good R.place-lt leaf-ok R.small (new_leaf u) (put-long zeros zeros-long g u.value)

          something : changes_nothing (leaf_in (view r) u) u ≡ false
          something = other-something (leaf_in (view r) u) u wr (λ z. nz (sym z ∙ leaf-0 g))

          on : tagged (after (leaf_in (view r) u) u) leaf ≡ true
          on = tagged-at (after (leaf_in (view r) u) u) leaf g refl (λ z. nz (sym (after-here (leaf_in (view r) u) u wr) ∙ z))

      turns-0 : Turns shape r u (Under 0) out
      turns-0 = go (ℕ_discrete u.value 0)
        where
          go : Dec (u.value ≡ 0) → Turns shape r u (Under 0) out
          go (yes e) = turns-same-0 e
          go (no e) = turns-new e

    turns-write : Turns shape r u (Under 0) out
    turns-write = ⊎_elim turns-1 turns-0 (true-or-false ((view r).bits 0 leaf))

  pub turns-leaf : Turns shape r u (Under 0) out
  turns-leaf = ⊎_elim turns-write turns-read (true-or-false u.write)
