-- Growing tables: names keep their indices. A reader inserts names as it meets them; what was read before
-- stays right.
use Rattle.lw_base.proofs.Common.{◌≡◌, ℕ, ◌<◌, ◌≤◌, ◌+◌, Bool, true, false, [], ◌∷◌, ◌++◌, length, refl, sym}
use Rattle.lw_base.proofs.Common.{ap, ◌∙◌, length-append, arith, if◌then◌else◌, bytes_eq, append-nil, or_left}
use Rattle.lw_base.proofs.Common.{or_right, unsigned_Decides, pointwise_decides, Bytes, NameTable}
use Rattle.lw_base.proofs.Common.{IsDuplicateFree, contains_name, insert_name, insert_names, position_of_name}
use Rattle.lw_base.proofs.api.Tables.{IsDuplicateFree-push, contains_name-Contains}

-- Inserting a name leaves the table unchanged if the table has the name (b is `true`), and appends it otherwise.
insert_name-by_presence : (names : NameTable) (n : Bytes) (b : Bool)
    → contains_name names n ≡ b
    → insert_name names n ≡ (if b then names else names ++ n ∷ [])
insert_name-by_presence names n b e = rw e refl

-- A table after inserting a name is an extension of the table.
pub insert_name-grows : (names : NameTable) (n : Bytes) → (more : NameTable) × (insert_name names n ≡ names ++ more)
insert_name-grows names n = go (contains_name names n) refl
  where
    -- By whether the table has the name.
    go : (b : Bool) → contains_name names n ≡ b → (more : NameTable) × (insert_name names n ≡ names ++ more)
    go true e = ([], insert_name-by_presence names n true e ∙ sym (append-nil names))
    go false e = (n ∷ [], insert_name-by_presence names n false e)

-- Inserting a concatenation of names is inserting the first names and then the others.
pub insert_names-append : (names ns ms : NameTable) → insert_names names (ns ++ ms) ≡ insert_names (insert_names names ns) ms
insert_names-append names [] ms = refl
insert_names-append names (n ∷ ns) ms = insert_names-append (insert_name names n) ns ms

-- A table after inserting names is no shorter.
pub length_le-insert_names : (names ns : NameTable) → length names ≤ length (insert_names names ns)
length_le-insert_names names [] = omega arith
length_le-insert_names names (n ∷ ns) =
    let grows = insert_name-grows names n in
    let longer : length names ≤ length (insert_name names n) = omega (arith, ap length grows.1, length-append names grows.0) in
    omega (arith, length_le-insert_names (insert_name names n) ns)

-- A name that is in a table is in each extension of it.
pub contains_name-append : (names more : NameTable) (n : Bytes)
    → contains_name names n ≡ true
    → contains_name (names ++ more) n ≡ true
contains_name-append [] more n e = absurd cc
contains_name-append (m ∷ names) more n e = go (bytes_eq m n) refl (contains_name-append names more n)
  where
    -- By whether the head of the table is the name n.
    go : (b : Bool)
        → bytes_eq m n ≡ b
        → (contains_name names n ≡ true → contains_name (names ++ more) n ≡ true)
        → contains_name ((m ∷ names) ++ more) n ≡ true
    go true f further = rw f refl
    go false f further = rw f (further (rw f at e))

-- A name has the same index in each extension of a table that has it.
pub position_of_name-append : (names more : NameTable) (n : Bytes)
    → contains_name names n ≡ true
    → position_of_name (names ++ more) n ≡ position_of_name names n
position_of_name-append [] more n e = absurd cc
position_of_name-append (m ∷ names) more n e = go (bytes_eq m n) refl (position_of_name-append names more n)
  where
    -- By whether the head of the table is the name n.
    go : (b : Bool)
        → bytes_eq m n ≡ b
        → (contains_name names n ≡ true → position_of_name (names ++ more) n ≡ position_of_name names n)
        → position_of_name ((m ∷ names) ++ more) n ≡ position_of_name (m ∷ names) n
    go true f further = rw f refl
    go false f further = rw f (ap (λ (k : ℕ). 1 + k) (further (rw f at e)))

-- A table with the name n appended has n.
pub contains_name-last : (names : NameTable) (n : Bytes) → contains_name (names ++ n ∷ []) n ≡ true
contains_name-last [] n = or_left (bytes_eq n n) false ((pointwise_decides unsigned_Decides n n).1 refl)
contains_name-last (m ∷ names) n = or_right (bytes_eq m n) _ (contains_name-last names n)

-- A name that is inserted is in the table, whether it is new or not.
pub contains_name-of_inserted : (names : NameTable) (n : Bytes) → contains_name (insert_name names n) n ≡ true
contains_name-of_inserted names n = go (contains_name names n) refl
  where
    -- By whether the table has the name.
    go : (b : Bool) → contains_name names n ≡ b → contains_name (insert_name names n) n ≡ true
    go true e = rw (insert_name-by_presence names n true e) e
    go false e = rw (insert_name-by_presence names n false e) (contains_name-last names n)

-- A name that is in a table is still in it after another is inserted.
pub contains_name-insert_name : (names : NameTable) (m n : Bytes)
    → contains_name names n ≡ true
    → contains_name (insert_name names m) n ≡ true
contains_name-insert_name names m n e =
    let grows = insert_name-grows names m in rw grows.1 (contains_name-append names grows.0 n e)

-- A name that is in a table is still in it after several are inserted.
pub contains_name-insert_names : (names ns : NameTable) (n : Bytes)
    → contains_name names n ≡ true
    → contains_name (insert_names names ns) n ≡ true
contains_name-insert_names names [] n e = e
contains_name-insert_names names (m ∷ ns) n e =
    contains_name-insert_names (insert_name names m) ns n (contains_name-insert_name names m n e)

-- A name that is in a table keeps its index when several are inserted.
pub position_of_name-insert_names : (names ns : NameTable) (n : Bytes)
    → contains_name names n ≡ true
    → position_of_name (insert_names names ns) n ≡ position_of_name names n
position_of_name-insert_names names [] n e = refl
position_of_name-insert_names names (m ∷ ns) n e =
    let grows = insert_name-grows names m in
    position_of_name-insert_names (insert_name names m) ns n (contains_name-insert_name names m n e)
    ∙ ap (λ ms. position_of_name ms n) grows.1
    ∙ position_of_name-append names grows.0 n e

-- The index of a name that is in a table is below the table's length.
pub position_of_name-within : (names : NameTable) (n : Bytes)
    → contains_name names n ≡ true
    → position_of_name names n < length names
position_of_name-within [] n e = absurd cc
position_of_name-within (m ∷ names) n e = go (bytes_eq m n) refl (position_of_name-within names n)
  where
    -- By whether the head of the table is the name n.
    go : (b : Bool)
        → bytes_eq m n ≡ b
        → (contains_name names n ≡ true → position_of_name names n < length names)
        → position_of_name (m ∷ names) n < length (m ∷ names)
    go true f further = rw f (omega arith)
    go false f further = rw f (omega (arith, further (rw f at e)))

-- Inserting a name preserves that a table has no duplicates.
pub IsDuplicateFree-insert_name : (names : NameTable) (n : Bytes) → IsDuplicateFree names → IsDuplicateFree (insert_name names n)
IsDuplicateFree-insert_name names n once = go (contains_name names n) refl
  where
    -- By whether the table has the name.
    go : (b : Bool) → contains_name names n ≡ b → IsDuplicateFree (insert_name names n)
    go true e = rw (insert_name-by_presence names n true e) once
    go false e =
        rw (insert_name-by_presence names n false e)
        (IsDuplicateFree-push names n once (λ h. let k = contains_name-Contains names n h in cc))

-- Inserting names preserves that a table has no duplicates.
pub IsDuplicateFree-insert_names : (names ns : NameTable) → IsDuplicateFree names → IsDuplicateFree (insert_names names ns)
IsDuplicateFree-insert_names names [] once = once
IsDuplicateFree-insert_names names (n ∷ ns) once =
    IsDuplicateFree-insert_names (insert_name names n) ns (IsDuplicateFree-insert_name names n once)
