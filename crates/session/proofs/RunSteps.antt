-- A run grows by one call at a time.
use Rattle.std.proofs.Common.{◌≡◌, ℕ, zero, suc, ◌+◌, ◌<◌, ◌≤◌, min, List, [], ◌∷◌, ◌++◌, length, get_or, take, drop, set, sym, refl, ap, ◌∙◌, subst, arith}
use Rattle.std.proofs.lemmas.List.{take_more, take_more_set, length-take-le, drop-set-lt, drop-drop}
use Rattle.market.specs.declared.call.Call.{Call}
use Rattle.market.specs.Runs.{Desk, Reply, answer_to, desk_after, Run}
use Rattle.market.proofs.Laws.{run_push}
use Rattle.session.specs.Desks.{calls_made}

made_push : (cs : List Call) (rs : List Reply) (c : Call) (a : Reply) → length cs ≡ length rs → calls_made (cs ++ (c ∷ [])) (rs ++ (a ∷ [])) ≡ calls_made cs rs ++ ((c, a) ∷ [])
made_push [] [] c a e = refl
made_push [] (y ∷ rs) c a e = absurd (omega arith)
made_push (x ∷ cs) [] c a e = absurd (omega arith)
made_push (x ∷ cs) (y ∷ rs) c a e = ap (λ ps. (x, y) ∷ ps) (made_push cs rs c a (omega arith))

-- the next call, with its answer written
pub run_next : (start : Desk) (cs : List Call) (rs : List Reply) (i : ℕ) (d : Call) (here next : Desk) (a : Reply) → i < length cs → i < length rs →
    Run start (calls_made (take i cs) (take i rs)) here → a ≡ answer_to (get_or cs i d) here → next ≡ desk_after (get_or cs i d) here →
    Run start (calls_made (take (i + 1) cs) (take (i + 1) (set rs i a))) next
run_next start cs rs i d here next a low room r e f =
    let c = get_or cs i d in
    let same : length (take i cs) ≡ length (take i rs) = length-take-le i cs (omega arith) ∙ sym (length-take-le i rs (omega arith)) in
    let calls = take_more cs i d low in
    let answers = take_more_set rs i a room in
    let made : calls_made (take (i + 1) cs) (take (i + 1) (set rs i a)) ≡ calls_made (take i cs) (take i rs) ++ ((c, a) ∷ []) =
    ap (λ x. calls_made x (take (i + 1) (set rs i a))) calls ∙ ap (calls_made (take i cs ++ (c ∷ []))) answers ∙ made_push (take i cs) (take i rs) c a same in
    let p = run_push start (calls_made (take i cs) (take i rs)) here c a r e in
    subst (λ x. Run start x next) (sym made) (subst (λ x. Run start (calls_made (take i cs) (take i rs) ++ ((c, a) ∷ [])) x) (sym f) p)

-- all calls for which there was room
pub made_all : (n : ℕ) (cs : List Call) (rs : List Reply) → min (length cs) (length rs) ≤ n → calls_made (take n cs) (take n rs) ≡ calls_made cs rs
made_all zero [] rs h = refl
made_all (suc n) [] rs h = refl
made_all zero (c ∷ cs) [] h = refl
made_all (suc n) (c ∷ cs) [] h = refl
made_all zero (c ∷ cs) (a ∷ rs) h = absurd (omega arith)
made_all (suc n) (c ∷ cs) (a ∷ rs) h = ap (λ ps. (c, a) ∷ ps) (made_all n cs rs (omega arith))

-- what lies behind is not written
pub behind_next : {X : Type 0} (xs ys : List X) (i : ℕ) (x : X) → drop i xs ≡ drop i ys → drop (i + 1) (set xs i x) ≡ drop (i + 1) ys
behind_next xs ys i x e = drop-set-lt (i + 1) xs i x (omega arith) ∙ sym (drop-drop 1 i xs) ∙ ap (drop 1) e ∙ drop-drop 1 i ys
