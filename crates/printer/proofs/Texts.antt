-- What a function was given, one text after the other.
use Rattle.std.proofs.Common.{◌≡◌, List, ℕ, zero, suc, ◌/◌, ◌≤◌, [], ◌∷◌, ◌++◌, length, take, map, refl, sym, subst, ap, ◌∙◌, le-ltb, Result, Ok, Err}
use Rattle.std.specs.Prelude.{OnOk}
use Rattle.std.specs.Fn.{Mut, Called, CalledAt}
use Rattle.std.specs.List.{FoldsTo}
use denote.Ref.{Bor}
use Rattle.snapshot.specs.Records.{Snapshot}
use Rattle.check_rules.specs.Verdict.{empty}
use Rattle.printing.specs.Input.{words_in}
use Rattle.printing.specs.Output.{Put}
use Rattle.find_path_spec.specs.Report.{refused}
use Rattle.find_path_spec.specs.Line.{bytes_of, line_in}
use Rattle.accept.specs.Post.{Checked}
use Rattle.printer.specs.Printed.{questions_at, lines_from, lines_of, lines_unless, input_fault, printed, Turns, ended}
use Rattle.printer.proofs.Whole.{turns_printed, fault_printed}

-- what holds where the result is an `Ok`
pub on_ok : {E P : Type 0} (r : Result (Unit {0}) E) → (r ≡ Ok tt → P) → OnOk r P
on_ok (Ok u) h = h refl
on_ok (Err e) h = tt

-- the text of an input that is refused
pub fault_text : (B old out : List ℕ) (n r : ℕ) → (n ≡ 0 → ⊥) → n ≡ input_fault B
    → ((s : Snapshot) (from : ℕ) → Put old 0 (line_in s from (refused n) ++ bytes_of "\n") out r) → map ended (printed B) ≡ take r out ∷ []
fault_text B old out zero r h e p = absurd (h refl)
fault_text B old out (suc k) r h e p = ap (map ended) (fault_printed B k (sym e)) ∙ ap (λ t. t ∷ []) (sym (p empty 0).same)

-- the texts of the turns from the first question on
pub turns_texts : (B W : List ℕ) (k : ℕ) (c : Checked) (texts : List (List ℕ)) → W ≡ words_in B (length B / 4) → k ≡ questions_at W
    → input_fault B ≡ 0
    → Turns W (take k W) c k texts → texts ≡ map ended (printed B)
turns_texts B W k c texts e q f t =
    let first = subst (λ j. Turns W (take j W) c j texts) q t in
    turns_printed B c texts f (subst (λ V. Turns V (take (questions_at V) V) c (questions_at V) texts) e first)

no_lines : (n : ℕ) (W S : List ℕ) (i : ℕ) → length W ≤ i → lines_from n W S i ≡ []
unfolding lines_from
no_lines zero W S i h = refl
no_lines (suc n) W S i h = rw (lines_from, le-ltb i (length W) h) refl

-- without a question there is no text
pub none_printed : (B W : List ℕ) (k : ℕ) → W ≡ words_in B (length B / 4) → k ≡ questions_at W → input_fault B ≡ 0 → length W ≤ k
    → [] ≡ map ended (printed B)
unfolding printed lines_unless lines_of
none_printed B W k e q f h =
    let V = words_in B (length B / 4) in
    let first = subst (λ j. length W ≤ j) q h in
    let none = no_lines (length V) V (take (questions_at V) V) (questions_at V) (subst (λ X. length X ≤ questions_at X) e first) in
    ap (map ended) (sym none) ∙ ap (λ n. map ended (lines_unless B n)) (sym f)

module _ {F E : Type 0} (g : Mut F (Bor (List ℕ) × Unit {0}) (Result (Unit {0}) E)) where
  pub took_one : (f : F) (x : Bor (List ℕ)) (r : Result (Unit {0}) E) (last : F) (texts : List (List ℕ)) → Called g f (x, tt) r last
      → texts ≡ x.now ∷ []
      → OnOk r (FoldsTo (λ p t q. CalledAt g p t (Ok tt) q) f texts last)
  took_one f x r last texts c e =
      on_ok r (λ o.
      subst (λ ts. FoldsTo (λ p t q. CalledAt g p t (Ok tt) q) f ts last) (sym e)
      (last, record { shown = x; shows = refl; called = subst (λ s. Called g f (x, tt) s last) o c }, refl)
      )

  pub took_turns : (B W : List ℕ) (k : ℕ) (f last : F) (r : Result (Unit {0}) E) → W ≡ words_in B (length B / 4) → k ≡ questions_at W
      → input_fault B ≡ 0
      → OnOk r ((c : Checked) × (texts : List (List ℕ)) × Turns W (take k W) c k texts
      × FoldsTo (λ p t q. CalledAt g p t (Ok tt) q) f texts last)
      → OnOk r (FoldsTo (λ p t q. CalledAt g p t (Ok tt) q) f (map ended (printed B)) last)
  took_turns B W k f last (Ok u) e q h (c, texts, t, s) =
      subst (λ ts. FoldsTo (λ p t q. CalledAt g p t (Ok tt) q) f ts last) (turns_texts B W k c texts e q h t) s
  took_turns B W k f last (Err x) e q h p = tt
