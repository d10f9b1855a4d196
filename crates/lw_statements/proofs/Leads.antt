-- The targets of the labels of a thread. By the map that the code fills, and by the rule of cells: they
-- agree.
use Rattle.lw_statements.proofs.Common.{◌≡◌, ℕ, ◌≤◌, ◌+◌, Bool, true, false, true≢false, ◌||◌, Option, Some}
use Rattle.lw_statements.proofs.Common.{None, List, [], ◌∷◌, ◌++◌, length, length-append, refl, sym, ap, ◌∙◌}
use Rattle.lw_statements.proofs.Common.{arith, Contains, is_some, if◌then◌else◌, bytes_eq, option_or}
use Rattle.lw_statements.proofs.Common.{false_from_ne_true, flat_map-append, filter_map-append}
use Rattle.lw_statements.proofs.Common.{list_any-append, IsDuplicateFree, contains_name, Bytes}
use Rattle.lw_statements.proofs.Common.{contains_name-Contains, CellSyntax, statements, labels_of, target_in}
use Rattle.lw_statements.proofs.Common.{label_target}
use Rattle.lw_statements.proofs.FrontLabels.{name_contained, not-in_both-if_duplicate_free}

module _ {Syntax : Type 0} where
  -- The statements of a concatenation are those of its parts.
  pub statements-append : (xs ys : List (CellSyntax Syntax)) → statements (xs ++ ys) ≡ statements xs ++ statements ys
  statements-append xs ys = filter_map-append (λ (syntax : CellSyntax Syntax). syntax.stmt) xs ys

  -- The labels of a concatenation are those of its parts.
  pub labels_of-append : (xs ys : List (CellSyntax Syntax)) → labels_of (xs ++ ys) ≡ labels_of xs ++ labels_of ys
  labels_of-append xs ys = flat_map-append (λ (syntax : CellSyntax Syntax). syntax.labels) xs ys

  -- The number of statements of a concatenation is the sum of its parts' numbers.
  pub count-append : (xs ys : List (CellSyntax Syntax))
      → length (statements (xs ++ ys)) ≡ length (statements xs) + length (statements ys)
  count-append xs ys = ap length (statements-append xs ys) ∙ length-append (statements xs) (statements ys)

  -- If a name has a target in these cells, it is the one of the rule of cells, k statements later.
  label_target-target_in : (syntaxes : List (CellSyntax Syntax)) (k : ℕ) (n : Bytes) (to : ℕ)
      → label_target k syntaxes n ≡ Some to
      → to ≡ k + target_in syntaxes n
  label_target-target_in [] k n to e = absurd cc
  label_target-target_in (syntax ∷ syntaxes) k n to e =
      go (contains_name syntax.labels n) refl (label_target-target_in syntaxes (k + length (statements (syntax ∷ []))) n to)
    where
      -- By whether the name is a label of the first cell.
      go : (b : Bool)
          → contains_name syntax.labels n ≡ b
          → (label_target (k + length (statements (syntax ∷ []))) syntaxes n ≡ Some to
          → to ≡ (k + length (statements (syntax ∷ []))) + target_in syntaxes n)
          → to ≡ k + target_in (syntax ∷ syntaxes) n
      go true f further =
          let g : Some k ≡ Some to = rw f at e in
          let h : k ≡ to = cc in
          rw f (omega (arith, h))
      go false f further = let h = further (rw f at e) in rw f (omega (arith, h))

  -- A name has a target in these cells if and only if it is one of their labels.
  pub is_some-label_target : (syntaxes : List (CellSyntax Syntax)) (k : ℕ) (n : Bytes)
      → is_some (label_target k syntaxes n) ≡ contains_name (labels_of syntaxes) n
  is_some-label_target [] k n = refl
  is_some-label_target (syntax ∷ syntaxes) k n =
      go (contains_name syntax.labels n) (is_some-label_target syntaxes (k + length (statements (syntax ∷ []))) n)
      ∙ sym (list_any-append (λ m. bytes_eq m n) syntax.labels (labels_of syntaxes))
    where
      -- By whether the name is a label of the first cell.
      go : (b : Bool)
          → is_some (label_target (k + length (statements (syntax ∷ []))) syntaxes n) ≡ contains_name (labels_of syntaxes) n
          → is_some (if b then Some k else label_target (k + length (statements (syntax ∷ []))) syntaxes n)
          ≡ (b || contains_name (labels_of syntaxes) n)
      go true further = refl
      go false further = further

  -- A name that has a target is a label, and its target is the one of the rule of cells.
  pub label_target-is_label : (syntaxes : List (CellSyntax Syntax)) (n : Bytes) (to : ℕ)
      → label_target 0 syntaxes n ≡ Some to
      → Contains (labels_of syntaxes) n × (to ≡ target_in syntaxes n)
  label_target-is_label syntaxes n to e = (
    name_contained (labels_of syntaxes) n (sym (is_some-label_target syntaxes 0 n) ∙ ap is_some e),
    omega (arith, label_target-target_in syntaxes 0 n to e),
  )

  -- A name that has no target is no label.
  pub not-label-if_target_none : (syntaxes : List (CellSyntax Syntax)) (n : Bytes)
      → label_target 0 syntaxes n ≡ None
      → Contains (labels_of syntaxes) n
      → ⊥
  not-label-if_target_none syntaxes n e there =
      true≢false (sym (contains_name-Contains (labels_of syntaxes) n there)
      ∙ sym (is_some-label_target syntaxes 0 n)
      ∙ ap is_some e)

  -- No label's target is past the end of the thread.
  pub target_within : (syntaxes : List (CellSyntax Syntax)) (n : Bytes) → target_in syntaxes n ≤ length (statements syntaxes)
  target_within [] n = omega arith
  target_within (syntax ∷ syntaxes) n = go (contains_name syntax.labels n) refl (target_within syntaxes n)
    where
      -- By whether the name is a label of the first cell.
      go : (b : Bool)
          → contains_name syntax.labels n ≡ b
          → target_in syntaxes n ≤ length (statements syntaxes)
          → target_in (syntax ∷ syntaxes) n ≤ length (statements (syntax ∷ syntaxes))
      go true e further = rw e (omega arith)
      go false e further = rw e (omega (arith, further, count-append (syntax ∷ []) syntaxes))

  -- The labels of one more cell.
  module _ (syntax : CellSyntax Syntax) (n : Bytes) where
    -- The target of the name, if it is a label of the last cell.
    abbrev label_of_last_cell : ℕ → Option ℕ
    label_of_last_cell to = if contains_name syntax.labels n then Some to else None

    -- With one more cell a name has the target that it has without this cell; or, if it has none and is a label of this cell,
    -- the position after all statements before.
    label_target-shifted : (xs : List (CellSyntax Syntax)) (k : ℕ)
        → label_target k (xs ++ syntax ∷ []) n ≡ option_or (label_target k xs n) (label_of_last_cell (k + length (statements xs)))
    label_target-shifted [] k = let e : k ≡ k + 0 = omega arith in ap label_of_last_cell e
    label_target-shifted (x ∷ xs) k = go (contains_name x.labels n) (label_target-shifted xs (k + length (statements (x ∷ []))))
      where
        -- By whether the name is a label of the first cell.
        go : (b : Bool)
            → label_target (k + length (statements (x ∷ []))) (xs ++ syntax ∷ []) n
            ≡ option_or (label_target (k + length (statements (x ∷ []))) xs n)
            (label_of_last_cell ((k + length (statements (x ∷ []))) + length (statements xs)))
            → (if b then Some k else label_target (k + length (statements (x ∷ []))) (xs ++ syntax ∷ []) n)
            ≡ option_or (if b then Some k else label_target (k + length (statements (x ∷ []))) xs n)
            (label_of_last_cell (k + length (statements (x ∷ xs))))
        go true further = refl
        go false further =
            let e : (k + length (statements (x ∷ []))) + length (statements xs) ≡ k + length (statements (x ∷ xs)) =
            omega (arith, count-append (x ∷ []) xs) in
            further ∙ ap (λ (to : ℕ). option_or (label_target (k + length (statements (x ∷ []))) xs n) (label_of_last_cell to)) e

    -- The labels of one more cell target the position after all statements before it; all other names keep their targets.
    pub label_target-one_more_cell : (xs : List (CellSyntax Syntax))
        → IsDuplicateFree (labels_of xs ++ syntax.labels)
        → label_target 0 (xs ++ syntax ∷ []) n
        ≡ (if contains_name syntax.labels n then Some (length (statements xs)) else label_target 0 xs n)
    label_target-one_more_cell xs once =
        label_target-shifted xs 0
        ∙ option_or-if (label_target 0 xs n) (contains_name syntax.labels n)
        (λ here. is_some-label_target xs 0 n ∙ false_from_ne_true (contains_name (labels_of xs) n) (λ there.
        not-in_both-if_duplicate_free (labels_of xs) syntax.labels n once (name_contained (labels_of xs) n there)
        (name_contained syntax.labels n here)))
      where
        -- By the old target and by whether the label is new: both ways to compute the target agree.
        option_or-if : (o : Option ℕ) (b : Bool)
            → (b ≡ true → is_some o ≡ false)
            → option_or o (if b then Some (0 + length (statements xs)) else None)
            ≡ (if b then Some (length (statements xs)) else o)
        option_or-if None true new = let e : 0 + length (statements xs) ≡ length (statements xs) = omega arith in ap Some e
        option_or-if (Some k) true new = absurd (let e : true ≡ false = new refl in cc)
        option_or-if None false new = refl
        option_or-if (Some k) false new = refl
