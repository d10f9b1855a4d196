-- The computed number of orders of all path assignments is the total of the limits' definition, which
-- determines it. So no program is both within the limits and beyond them.
use Rattle.lw_paths.proofs.Common.{◌≡◌, ℕ, ◌+◌, List, [], ◌∷◌, refl, sym, ◌∙◌, subst, inl, inr, arith, All}
use Rattle.lw_paths.proofs.Common.{Contains, ◌↔◌, IsDuplicateFree, Language, JumpsForward, HasOrderCount}
use Rattle.lw_paths.proofs.Common.{HaveOrderCounts, IsTotalOrderCount, constraints_of, items_of}
use Rattle.lw_paths.proofs.Common.{path_assignments, orders_of_assignment, orders_of, total_of}
use Rattle.lw_paths.proofs.Common.{HasOrientationCount-computed, HasOrientationCount-unique, ListFault}
use Rattle.lw_paths.proofs.Common.{Memory, TooManyItems, TooManyOrders, LimitFaultIsTrue, IsWithinLimits, ◌≢◌}
use Rattle.lw_paths.proofs.Once.{IsDuplicateFree-path_assignments}
use Rattle.lw_paths.proofs.api.Enumerated.{Contains-path_assignments}
use Rattle.lw_paths.proofs.api.PreservedPairs.{AreAscending-preserved, AreSorted-conflicts}
use Rattle.lw_paths.proofs.api.Members.{not-Contains-nil, Contains-head, Contains-tail, Contains-cons}

module _ {S : Type 0} (language : Language S) (program : List (List S)) where
  -- The computed number of a path assignment's orders is its number of orders.
  HasOrderCount-computed : (paths : List (List ℕ))
      → HasOrderCount language program paths (orders_of_assignment language program paths)
  HasOrderCount-computed paths =
      let items = items_of language program paths in
      HasOrientationCount-computed (constraints_of language program items) (AreAscending-preserved language program items)
      (AreSorted-conflicts language program items)

  -- The computed number of orders of some path assignments is theirs together.
  HaveOrderCounts-computed : (assignments : List (List (List ℕ)))
      → HaveOrderCounts language program assignments (orders_of language program assignments)
  HaveOrderCounts-computed [] = refl
  HaveOrderCounts-computed (paths ∷ assignments) = (
    orders_of_assignment language program paths,
    orders_of language program assignments,
    HasOrderCount-computed paths,
    HaveOrderCounts-computed assignments,
    refl,
  )

  -- If jumps go forward, the computed sum `total_of` satisfies the definition of the total.
  pub IsTotalOrderCount-total_of : All (JumpsForward language) program
      → IsTotalOrderCount language program (total_of language program)
  IsTotalOrderCount-total_of forward = record {
    assignments = path_assignments language program;
    exactly = λ paths. Contains-path_assignments language program paths forward;
    without_duplicates = IsDuplicateFree-path_assignments language program forward;
    orders = HaveOrderCounts-computed (path_assignments language program);
  }

  -- ---- the total is unique
  -- If n and m are both the number of orders of a path assignment, they are the same.
  HasOrderCount-unique : (paths : List (List ℕ)) (n m : ℕ)
      → HasOrderCount language program paths n
      → HasOrderCount language program paths m
      → n ≡ m
  HasOrderCount-unique paths n m =
      HasOrientationCount-unique (constraints_of language program (items_of language program paths)) n m

  -- One of some path assignments, and the others, with their numbers of orders.
  record IsSetAside (one : List (List ℕ)) (assignments : List (List (List ℕ))) (n : ℕ) : Type 0 where
    pub others : List (List (List ℕ))
    pub orders : ℕ
    pub more : ℕ
    pub one_has : HasOrderCount language program one orders
    pub others_have : HaveOrderCounts language program others more
    pub sum : n ≡ orders + more
    pub without_duplicates : IsDuplicateFree others
    pub left : (c : List (List ℕ)) → Contains others c ↔ (Contains assignments c × (one ≡ c → ⊥))

  -- If a list of path assignments without duplicates contains one, this can be set aside from the others.
  IsSetAside-member : (one : List (List ℕ)) (assignments : List (List (List ℕ))) (n : ℕ)
      → Contains assignments one
      → IsDuplicateFree assignments
      → HaveOrderCounts language program assignments n
      → IsSetAside one assignments n
  IsSetAside-member one [] n is_member once have = absurd (not-Contains-nil one is_member)
  IsSetAside-member one (c ∷ assignments) n is_member once (m, k, has, have, sum) =
      elim (Contains-cons c one assignments is_member) [
        | inl is_head ↦ record {
          others = assignments;
          orders = m;
          more = k;
          one_has = subst (λ d. HasOrderCount language program d m) is_head has;
          others_have = have;
          sum = sum;
          without_duplicates = once.1;
          left = λ d. (
            λ h. (Contains-tail c d assignments h, λ e. once.0 (subst (Contains assignments) (sym (is_head ∙ e)) h)),
            λ h. elim (Contains-cons c d assignments h.0) [ inl e ↦ absurd (h.1 (sym is_head ∙ e)) | inr in_tail ↦ in_tail ],
          );
        }
        | inr in_tail ↦
            (let p : IsSetAside one assignments k = IsSetAside-member one assignments k in_tail once.1 have in
            record {
              others = c ∷ p.others;
              orders = p.orders;
              more = m + p.more;
              one_has = p.one_has;
              others_have = (m, p.more, has, p.others_have, refl);
              sum = omega (arith, sum, p.sum);
              without_duplicates = ((λ h. once.0 ((p.left c).0 h).0), p.without_duplicates);
              left = λ d. (
                λ h. elim (Contains-cons c d p.others h) [
                  | inl is_head ↦ (
                    Contains-head c d assignments is_head,
                    λ same. once.0 (subst (Contains assignments) (same ∙ sym is_head) in_tail),
                  )
                  | inr in_tail ↦ (Contains-tail c d assignments ((p.left d).0 in_tail).0, ((p.left d).0 in_tail).1)
                ],
                λ h. elim (Contains-cons c d assignments h.0) [
                  | inl is_head ↦ Contains-head c d p.others is_head
                  | inr in_tail ↦ Contains-tail c d p.others ((p.left d).1 (in_tail, h.1))
                ],
              );
            })
      ]

  -- If two lists without duplicates have the same path assignments, with n and with m orders, then n is m.
  HaveOrderCounts-unique : (assignments others : List (List (List ℕ))) (n m : ℕ)
      → IsDuplicateFree assignments
      → IsDuplicateFree others
      → ((c : List (List ℕ)) → Contains assignments c ↔ Contains others c)
      → HaveOrderCounts language program assignments n
      → HaveOrderCounts language program others m
      → n ≡ m
  HaveOrderCounts-unique [] [] n m once other_once same none also_none = none ∙ sym also_none
  HaveOrderCounts-unique [] (d ∷ others) n m once other_once same none have =
      absurd (not-Contains-nil d ((same d).1 (Contains-head d d others refl)))
  HaveOrderCounts-unique (c ∷ assignments) others n m once other_once same (i, k, has, have, sum) other_have =
      let p : IsSetAside c others m =
      IsSetAside-member c others m ((same c).0 (Contains-head c c assignments refl)) other_once other_have in
      let first : i ≡ p.orders = HasOrderCount-unique c i p.orders has p.one_has in
      let rest : k ≡ p.more =
      HaveOrderCounts-unique assignments p.others k p.more once.1 p.without_duplicates (λ d. (
        λ h. (p.left d).1 ((same d).0 (Contains-tail c d assignments h), λ e. once.0 (subst (Contains assignments) (sym e) h)),
        λ h. elim (Contains-cons c d assignments ((same d).1 ((p.left d).0 h).0)) [
          | inl is_head ↦ absurd (((p.left d).0 h).1 is_head)
          | inr in_tail ↦ in_tail
        ],
      )) have p.others_have in
      omega (arith, sum, p.sum, first, rest)

  -- If n and m are both a program's total of orders, they are the same.
  pub IsTotalOrderCount-unique : (n m : ℕ) → IsTotalOrderCount language program n → IsTotalOrderCount language program m → n ≡ m
  IsTotalOrderCount-unique n m a b =
      HaveOrderCounts-unique a.assignments b.assignments n m a.without_duplicates b.without_duplicates
      (λ c. ((λ h. (b.exactly c).1 ((a.exactly c).0 h)), λ h. (a.exactly c).1 ((b.exactly c).0 h))) a.orders b.orders

  -- If a reason other than memory for which there is no list is true, the program is not within the limits.
  pub not-LimitFaultIsTrue-if_within_limits : (f : ListFault)
      → f ≢ Memory
      → LimitFaultIsTrue language program f
      → IsWithinLimits language program
      → ⊥
  not-LimitFaultIsTrue-if_within_limits TooManyItems other many within = within.0 many
  not-LimitFaultIsTrue-if_within_limits TooManyOrders other many within =
      (let (n, n_is, more) = many.1 in
      let (m, m_is, less) = within.1 in
      absurd (omega (arith, IsTotalOrderCount-unique n m n_is m_is, more, less)))
  not-LimitFaultIsTrue-if_within_limits Memory other many within = other refl
