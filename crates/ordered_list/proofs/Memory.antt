-- What insert and remove leave of the list, read off the whole memory and the length.
use Rattle.std.proofs.Common.{◌≡◌, ℕ, suc, ◌+◌, ◌-◌, ◌<◌, ◌≤◌, min, Bool, List, ◌∷◌, ◌++◌, length, get_or, take, drop, Some, None, Ok, sym, refl, ap, ◌∙◌, inl, inr, arith}
use Rattle.std.specs.List.{remove, slice_get}
use Rattle.std.proofs.lemmas.List.{length-take, length-take-le, take_at, take_all, drop_all, append-nil, take-append-drop, get_or-take}
use Rattle.std.proofs.lemmas.List.Edits.{length-remove}
use Rattle.std.proofs.lemmas.Option.{slice_get-get_or, slice_get_past}
use Rattle.std.proofs.lemmas.Bool.{cases_lt, lt-ltb, le-ltb, cond_below, cond_above, cond-true}
use Rattle.ordered_list.specs.Order.{position_of, placed}
use Rattle.ordered_list.specs.Lists.{list_of, length_of, insert_answer, insert_list, insert_memory, insert_len, remove_answer, remove_list, remove_memory, remove_len}
use Rattle.ordered_list.proofs.Placed.{length-placed}

-- room behind the list
pub insert_room : {X : Type 0} (after : X → X → Bool) (len : ℕ) (memory : List X) (x : X) → len < length memory →
    (Ok (position_of after x (list_of len memory)) ≡ insert_answer after len memory x)
    × (placed after x (list_of len memory) ++ drop (len + 1) memory ≡ insert_memory after len memory x)
    × (len + 1 ≡ insert_len len memory)
insert_room after len memory x h =
    (cond_below len (length memory) _ _ h, cond_below len (length memory) _ _ h, cond_below len (length memory) _ _ h)

-- a line that went in stands in front of what lies behind the list
pub front_placed : {X : Type 0} (after : X → X → Bool) (len : ℕ) (memory : List X) (x : X) → len < length memory →
    take (len + 1) (placed after x (take len memory) ++ drop (len + 1) memory) ≡ placed after x (take len memory)
front_placed after len memory x h =
    take_at (placed after x (take len memory)) (drop (len + 1) memory) (len + 1) (length-placed after x (take len memory) ∙ ap (λ n. n + 1) (length-take-le len memory (omega arith)))

-- the list after insert stands in front of the memory after it
pub list_insert : {X : Type 0} (after : X → X → Bool) (len : ℕ) (memory : List X) (x : X) →
    list_of (insert_len len memory) (insert_memory after len memory x) ≡ insert_list after len memory x
list_insert after len memory x = elim (cases_lt len (length memory)) [
  | inl h ↦ simp (lt-ltb len (length memory) h) (front_placed after len memory x h)
  | inr h ↦ simp (le-ltb len (length memory) h)
]

-- with room, the list has the line
pub list_insert_room : {X : Type 0} (after : X → X → Bool) (len : ℕ) (memory : List X) (x : X) → len < length memory →
    list_of (len + 1) (insert_memory after len memory x) ≡ placed after x (list_of len memory)
list_insert_room after len memory x h =
    let l = list_insert after len memory x in
    let n = (insert_room after len memory x h).2 in
    ap (λ k. list_of k (insert_memory after len memory x)) n ∙ l ∙ cond-true _ _ _ (lt-ltb len (length memory) h)

-- a length past the memory's end is the memory's
clamped : {X : Type 0} (len : ℕ) (memory : List X) → (take (length_of len memory) memory ≡ list_of len memory) × (drop (length_of len memory) memory ≡ drop len memory)
clamped len memory = elim (cases_lt len (length memory)) [
  | inl h ↦ let e : min len (length memory) ≡ len = omega arith in (ap (λ n. take n memory) e, ap (λ n. drop n memory) e)
  | inr h ↦
      let e : min len (length memory) ≡ length memory = omega arith in (
        ap (λ n. take n memory) e ∙ take_all (length memory) memory (omega arith) ∙ sym (take_all len memory h),
        ap (λ n. drop n memory) e ∙ drop_all (length memory) memory (omega arith) ∙ sym (drop_all len memory h),
      )
]

-- the list by its own length
pub list_whole : {X : Type 0} (len : ℕ) (memory : List X) → take (length_of len memory) memory ≡ list_of len memory
list_whole len memory = (clamped len memory).0

-- no line at the position: all stays
pub remove_none : {X : Type 0} (len : ℕ) (memory : List X) (at : ℕ) → length_of len memory ≤ at →
    (slice_get (list_of len memory) at ≡ None) × (list_of len memory ≡ remove_list len memory at) × (memory ≡ remove_memory len memory at) × (len ≡ remove_len len memory at)
remove_none len memory at h =
    let m : length (take len memory) ≤ at = simp length-take h in
    let n = slice_get_past (take len memory) at m in
    let r : take len memory ≡ remove (take len memory) at = sym (simp (take_all at (take len memory) m, drop_all (suc at) (take len memory) (omega arith), append-nil)) in
    (n, r, sym (simp (n, sym r, take-append-drop)), cond_above at (length_of len memory) _ _ len h refl)

-- a line at the position: it comes to stand behind the rest of the list
pub remove-some : {X : Type 0} (len : ℕ) (memory : List X) (at : ℕ) (line : X) → at < length_of len memory → line ≡ get_or memory at line →
    (slice_get (list_of len memory) at ≡ Some line)
    × (remove (take (length_of len memory) memory) at ++ (line ∷ drop (length_of len memory) memory) ≡ remove_memory len memory at)
    × (length_of len memory - 1 ≡ remove_len len memory at)
remove-some len memory at line h r =
    let m : at < length (take len memory) = simp length-take h in
    let n = slice_get-get_or (take len memory) at line m ∙ ap Some (get_or-take len memory at line (omega arith) ∙ sym r) in
    let c = clamped len memory in
    (n, simp (n, c.0, c.1), cond_below at (length_of len memory) _ _ h)

-- what remove answered stood at the position
pub removed_line : {X : Type 0} (len : ℕ) (memory : List X) (at : ℕ) (x : X) → remove_answer len memory at ≡ Ok x → slice_get (list_of len memory) at ≡ Some x
removed_line len memory at x e = grind arith

-- the list after remove stands in front of the memory after it
pub list_remove : {X : Type 0} (len : ℕ) (memory : List X) (at : ℕ) →
    list_of (remove_len len memory at) (remove_memory len memory at) ≡ remove_list len memory at
list_remove len memory at = elim (cases_lt at (length_of len memory)) [
  | inl h ↦
      let m : at < length (take len memory) = simp length-take h in
      let long : length (remove (take len memory) at) ≡ length_of len memory - 1 = omega (arith, length-remove (take len memory) at m, length-take len memory) in
      simp (lt-ltb at (length_of len memory) h) (take_at (remove (take len memory) at) _ (length_of len memory - 1) long)
  | inr h ↦ let r = remove_none len memory at h in cc (r.1, r.2, r.3)
]
