-- `write_listed` promises the line of the list of names, or nothing if the test has none. Each round writes a
-- separator and an element (`joined_prefix-push`); the interesting case is the empty list, which has no line
-- (`listed_text-if_not_empty`).
use Rattle.lw_x86.proofs.Common.{◌≡◌, ◌++◌, ◌==◌, List, [], ◌∷◌, length, map, codes, refl, ap, ◌∙◌, false}
use Rattle.lw_x86.proofs.Common.{sym, arith, length-map, All-from_recursion, slice_get-map, slice_get_read}
use Rattle.lw_x86.proofs.Common.{option_map, joined, NameTable, Seen, written-append, written-equal_text}
use Rattle.lw_x86.proofs.Common.{element_text, listed_text}
use Rattle.lw_x86.proofs.SeparatedTexts.{joined_prefix-push, joined_prefix-whole, OnOk-line_written}
use Rattle.lw_x86.proofs.canonical.write_listed.Goals as goal

-- If the list of names is not empty, its line is the opening, the elements with spaces between them, and the end of the line.
listed_text-if_not_empty : (names : NameTable) (ss : List Seen)
    → (length ss == 0) ≡ false
    → codes "locations [" ++ (joined (codes " ") (map (element_text names) ss) ++ codes "]\n") ≡ listed_text names ss
listed_text-if_not_empty names [] some = absurd cc
listed_text-if_not_empty names (s ∷ ss) some = refl

pub write_element-requires : goal.write_element-requires
write_element-requires g c =
    let head = c.args.head.now in
    let is = rw c.as_slice-listed.ensures at c.index-listed-index.is in
    let lt = rw c.as_slice-listed.ensures at c.loop-index-test.true in
    (head.threads, rw is (All-from_recursion _ head.listed c.requires c.loop-index.index _ lt))

-- A round writes one more element after its separator.
pub loop-index-preserved : goal.loop-index-preserved
loop-index-preserved g c =
    let head = c.args.head.now in
    let k = c.loop-index.index in
    let is = rw c.as_slice-listed.ensures at c.index-listed-index.is in
    let lt = rw c.as_slice-listed.ensures at c.loop-index-test.true in
    joined_prefix-push (codes " ") _ k _ _ c.loop-index.invariant _ _
    (slice_get-map (element_text head.locs) head.listed k
    ∙ ap (option_map (element_text head.locs)) (slice_get_read head.listed _ k _ refl lt is))
    (written-append _ _ _ _ _ c.in_ok-write_separator.ensures c.in_ok-write_element.ensures)

-- At the loop's end all elements are written, and with the end the line.
pub returns : goal.returns
returns g c =
    let head = c.args.head.now in
    let parts = map (element_text head.locs) head.listed in
    let elements = joined_prefix-whole (codes " ") parts c.loop-index.index _ _ c.loop-index.invariant (omega (
      arith,
      length-map head.listed (element_text head.locs),
      ap length c.as_slice-listed.ensures,
      c.loop-index-test.false,
    )) in
    let some = rw c.as_slice-listed.ensures at (sym c.is_empty.ensures ∙ c.if-is_empty.false) in
    written-equal_text _ _ _ _ _ (listed_text-if_not_empty head.locs head.listed some)
    (OnOk-line_written c.push_str-2.result _ _ _ (codes "]\n") c.in_ok-push_str.ensures.bytes elements c.push_str-2.ensures.bytes)
