-- Laws of words that stay checked.
use Prim.Native.Nat.{ℕ, ◌-◌, ◌^◌, ◌≤◌, ◌<◌}
use mathlib.Core.Path.{◌≡◌, refl, sym, ◌∙◌, ap, subst}
use mathlib.Core.Bool.{Bool, true, false}
use mathlib.Core.List.{List, ◌++◌}
use native.Mathlib.Omega.{arith}
use borrow.Author.Tests.{le-ltb}
use lib.ListN.{length, take, drop, length-append}
use lib.Seq.{length-take-le, take-take, take-append-le, drop_at}
use Rattle.snapshot.specs.Limits.{area_limit}
use Rattle.snapshot.specs.Refusals.{batch_refusal}
use Rattle.snapshot.specs.Layouts.{word_count, table_words}
use Rattle.snapshot.specs.declared.layout.Layout.{Layout}
use Rattle.record_index.specs.Index.{keys_of, count_of, key_of, Chains}
use Rattle.record_index.specs.declared.chains.Chain.{Chain}
use Rattle.record_index.specs.declared.chains.Chain.TheVariants.{Modules, Items, Imports}
use Rattle.accept.specs.Post.{Checked, Tables, Reads, Judged}
use Rattle.std.specs.Prelude.{Ok}
use Rattle.answer.specs.checked.Questioned.{Questioned}
use Rattle.answer.proofs.checked.Laws.{reads_of, judged_stays, same_report}
use Rattle.find_path_spec.specs.declared.Question.{Question}
use Rattle.find_path_spec.specs.declared.Report.{Report}
use Rattle.reports.specs.questions.Fits.{batch_fits}
use Rattle.answer.specs.batch.Batch.{batch_fault, reports_to, reports_after}
use Rattle.answer.specs.asked.StillChecked.{counted, layout_with, layout_of, StillChecked}
use Rattle.answer.specs.asked.Asked.{Stays, Asked, AskedEach}

-- a layout from its numbers

module _ (W A : List ℕ) (l : Layout) (t : Tables W A l) where
  others_fit : word_count (layout_with 0 (counted l)) ≤ length W
  others_fit = omega (arith, t.whole)

  names_words : l.text ≡ length W - word_count (layout_with 0 (counted l))
  names_words = omega (arith, t.whole)

  -- the latest map is the check's alone
  chains_without : (c : Chain) → Chains W l A c → Chains W (layout_with l.text (counted l)) A c
  chains_without Modules x = x
  chains_without Items x = x
  chains_without Imports x = x

  keys_without : (c : Chain) → ((k : ℕ) → k < count_of l c → key_of W l c k < keys_of c)
      → (k : ℕ) → k < count_of (layout_with l.text (counted l)) c → key_of W (layout_with l.text (counted l)) c k < keys_of c
  keys_without Modules x = x
  keys_without Items x = x
  keys_without Imports x = x

  tables_without : Tables W A (layout_with l.text (counted l))
  tables_without =
      record {
        whole = t.whole;
        short = t.short;
        limited = record {
          names = t.limited.names;
          crates = t.limited.crates;
          modules = t.limited.modules;
          definitions =
              t.limited.definitions;
        };
        maps = t.maps;
        heads = t.heads;
        below = t.below;
        mapped = t.mapped;
        rooted = t.rooted;
        inside = t.inside;
        first = t.first;
        own = t.own;
        owned = t.owned;
        index =
            record {
              chains = λ c. chains_without c (t.index.chains c);
              keys = λ c. keys_without c (t.index.keys c);
              dependencies = t.index.dependencies;
              externs = t.index.externs;
            };
      }

module _ (W A C : List ℕ) (k : StillChecked W A C) where
  pub layout_fits : (word_count (layout_with 0 C) ≤ length W) × (length W < 2 ^ 32)
  layout_fits =
      let t = k.reads.tables in (
        subst (λ x. word_count (layout_with 0 x) ≤ length W) (sym k.counts) (others_fit W A k.layout t),
        omega (arith, t.short),
      )

  -- the numbers are those of the layout made from them
  counts_back : C ≡ counted (layout_of (length W) C)
  counts_back = k.counts ∙ ap (λ x. counted (layout_of (length W) x)) (sym k.counts)

  reads_back_lem : Reads W A (layout_of (length W) C)
  reads_back_lem =
      let l = k.layout in
      let r : Reads W A (layout_with l.text (counted l)) = record { same = k.reads.same; tables = tables_without W A l k.reads.tables } in
      subst (λ x. Reads W A (layout_of (length W) x)) (sym k.counts)
      (subst (λ n. Reads W A (layout_with n (counted l))) (names_words W A l k.reads.tables) r)

  judged_back : Judged W A (Ok (layout_of (length W) C))
  judged_back = record { same = sym reads_back_lem.same; tables = reads_back_lem.tables }

  -- another area with the same tables serves as well
  pub tables_moved : (B : List ℕ) → take table_words B ≡ take table_words A → area_limit ≤ length B → StillChecked W B C
  tables_moved B e h =
      record {
        layout = layout_of (length W) C;
        reads = reads_of W B (Ok (layout_of (length W) C)) (judged_stays W A B (layout_of (length W) C) judged_back e)
            (layout_of (length W) C) refl;
        counts = counts_back;
        room = h;
      }

  -- the call in the first part of the area
  module _ (l : Layout) (c : Checked) (e : l ≡ layout_of (length W) C) (f : c ≡ Ok l) where
    pub judged_part : Judged W (take area_limit A) c × (length (take area_limit A) ≡ area_limit)
    judged_part =
        let j = judged_stays W A (take area_limit A) (layout_of (length W) C) judged_back (take-take table_words area_limit A (omega arith)) in
        (subst (λ x. Judged W (take area_limit A) x) (sym (f ∙ ap Ok e)) j, length-take-le area_limit A k.room)

    module _ (B : List ℕ) (n : length B ≡ area_limit) (j : Judged W B c) where
      pub part_stays : Stays W A C (B ++ drop area_limit A)
      part_stays =
          let J : Judged W B (Ok (layout_of (length W) C)) = subst (λ x. Judged W B x) (f ∙ ap Ok e) j in
          let D = drop area_limit A in
          let u : take table_words (B ++ D) ≡ take table_words B = take-append-le table_words B D (omega (arith, n)) in
          record {
            checked =
                record {
                  layout = layout_of (length W) C;
                  reads = reads_of W (B ++ D) (Ok (layout_of (length W) C)) (judged_stays W B (B ++ D) (layout_of (length W) C) J u)
                      (layout_of (length W) C) refl;
                  counts = counts_back;
                  room = omega (arith, n, length-append B D);
                };
            rest = drop_at B D area_limit n;
          }

  pub asked_by_lem : (l : Layout) (c : Checked) (e : l ≡ layout_of (length W) C) (f : c ≡ Ok l) (B : List ℕ) → length B ≡ length (take area_limit A)
      → (q : Question) (r : Report) → Questioned W q c B r → Asked W A C q (B ++ drop area_limit A) r
  asked_by_lem l c e f B n q r k' =
      record {
        report = k'.report ∙ same_report W area_limit (length A) q (omega arith) k.room;
        stays = part_stays l c e f B (n ∙ length-take-le area_limit A k.room) k'.checked;
      }

  module _ (Q R : List ℕ) (b : Bool) (g : b ≡ batch_fits (length Q) (length R)) where
    pub asked_not : b ≡ false → AskedEach W A C Q R A R batch_refusal
    unfolding batch_fault reports_after
    asked_not f =
        record {
          number = sym (rw (batch_fault, le-ltb _ _ k.room, sym g, f));
          reports = refl;
          stays = record { checked = k; rest = refl };
        }

    pub asked_each : b ≡ true → (l : Layout) (c : Checked) (e : l ≡ layout_of (length W) C) (f : c ≡ Ok l) (B : List ℕ)
        → length B ≡ length (take area_limit A) → Judged W B c → (S : List ℕ) → S ≡ reports_to W Q R
        → AskedEach W A C Q R (B ++ drop area_limit A) S 0
    unfolding batch_fault reports_after
    asked_each h l c e f B n j S p =
        record {
          number = sym (rw (batch_fault, le-ltb _ _ k.room, sym g, h));
          reports = p;
          stays = part_stays l c e f B (n ∙ length-take-le area_limit A k.room) j;
        }
