-- Two lists that are related item by item. The printer of canonical texts uses this.
use Rattle.lw_statements.proofs.Common.{◌≡◌, suc, List, [], ◌∷◌, ◌++◌, length, refl, ap, AllZip}

-- The second list, split at the item related to x: each part is related to the first list's part.
pub record Cut {X Y : Type 0} (R : X → Y → Type 0) (front : List X) (x : X) (rest : List X) (zs : List Y) : Type 0 where
  pub above : List Y
  pub here : Y
  pub below : List Y
  pub whole : zs ≡ above ++ here ∷ below
  pub above_says : AllZip R front above
  pub says : R x here
  pub below_says : AllZip R rest below

module _ {X Y : Type 0} (R : X → Y → Type 0) where
  -- If each item is related to at most one, a list is related to at most one list.
  pub AllZip-unique : ((x : X) (y z : Y) → R x y → R x z → y ≡ z)
      → (xs : List X) (ys zs : List Y)
      → AllZip R xs ys
      → AllZip R xs zs
      → ys ≡ zs
  AllZip-unique one [] [] [] h k = refl
  AllZip-unique one [] [] (z ∷ zs) h k = absurd k
  AllZip-unique one (x ∷ xs) (y ∷ ys) [] h k = absurd k
  AllZip-unique one (x ∷ xs) (y ∷ ys) (z ∷ zs) h k =
      let e = one x y z h.0 k.0 in
      let f = AllZip-unique one xs ys zs h.1 k.1 in
      cc
  AllZip-unique one xs ys zs h k = absurd h

  -- Appending related items preserves that two lists are related.
  pub AllZip-snoc : (xs : List X) (ys : List Y) (x : X) (y : Y) → AllZip R xs ys → R x y → AllZip R (xs ++ x ∷ []) (ys ++ y ∷ [])
  AllZip-snoc [] [] x y h k = (k, tt)
  AllZip-snoc (w ∷ xs) (z ∷ ys) x y h k = (h.0, AllZip-snoc xs ys x y h.1 k)
  AllZip-snoc xs ys x y h k = absurd h

  -- Related lists have the same length.
  pub AllZip-length : (xs : List X) (ys : List Y) → AllZip R xs ys → length xs ≡ length ys
  AllZip-length [] [] h = refl
  AllZip-length (x ∷ xs) (y ∷ ys) h = ap suc (AllZip-length xs ys h.1)
  AllZip-length xs ys h = absurd h

  -- If the first list is split at an item, so is the second at the related item.
  pub Cut-AllZip : (front : List X) (x : X) (rest : List X) (zs : List Y)
      → AllZip R (front ++ x ∷ rest) zs
      → Cut R front x rest zs
  Cut-AllZip [] x rest (z ∷ zs) h =
      record { above = []; here = z; below = zs; whole = refl; above_says = tt; says = h.0; below_says = h.1 }
  Cut-AllZip (w ∷ front) x rest (z ∷ zs) h =
      let k = Cut-AllZip front x rest zs h.1 in
      record {
        above = z ∷ k.above;
        here = k.here;
        below = k.below;
        whole = ap (λ ts. z ∷ ts) k.whole;
        above_says = (h.0, k.above_says);
        says = k.says;
        below_says = k.below_says;
      }
  Cut-AllZip front x rest zs h = absurd h
