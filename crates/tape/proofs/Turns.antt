-- A tape plays turn by turn.
use Rattle.std.proofs.Common.{◌≡◌, ℕ, ◌-◌, ◌<◌, List, [], ◌∷◌, ◌++◌, length, sym, ap, ◌∙◌, subst, append_assoc, arith}
use Rattle.std.proofs.lemmas.List.{append-nil, nil_from_length}
use Rattle.tape.specs.declared.answer.TapeAnswer.{TapeAnswer}
use Rattle.tape.specs.Answers.{line_of}
use Rattle.tape.specs.Stages.{Floor}
use Rattle.tape.specs.Plays.{turned, Plays, ends, goes}

-- one turn, and then the rest
pub play_step : (whole : ℕ) (rest behind : List ℕ) (f g : Floor) (line : TapeAnswer) → 0 < length rest →
    line ≡ line_of (whole - length rest) (turned rest f).answer → behind ≡ (turned rest f).rest → g ≡ (turned rest f).floor →
    (answers : List TapeAnswer) (end : Floor) → Plays whole behind g answers end → Plays whole rest f (line ∷ answers) end
play_step whole [] behind f g line some e r h answers end p = absurd (omega arith)
play_step whole (b ∷ bs) behind f g line some e r h answers end p =
    let there = subst (λ x. Plays whole (turned (b ∷ bs) f).rest x answers end) h (subst (λ x. Plays whole x g answers end) r p) in
    subst (λ x. Plays whole (b ∷ bs) f (x ∷ answers) end) (sym e) (goes b bs f there)

-- however the rest of a tape plays from a floor, the whole plays from the start with these answers in front
abbrev pub Front : ℕ → List ℕ → Floor → List TapeAnswer → List ℕ → Floor → Type 0
Front whole tape start front rest f = (answers : List TapeAnswer) (end : Floor) → Plays whole rest f answers end → Plays whole tape start (front ++ answers) end

-- the answers so far, with one more behind them
pub front_more : (whole : ℕ) (tape rest behind : List ℕ) (start f g : Floor) (front more : List TapeAnswer) (line : TapeAnswer) → 0 < length rest →
    line ≡ line_of (whole - length rest) (turned rest f).answer → behind ≡ (turned rest f).rest → g ≡ (turned rest f).floor → more ≡ front ++ (line ∷ []) →
    Front whole tape start front rest f → Front whole tape start more behind g
front_more whole tape rest behind start f g front more line some e r h longer so_far answers end p =
    let written : more ++ answers ≡ front ++ (line ∷ answers) = ap (λ xs. xs ++ answers) longer ∙ append_assoc front (line ∷ []) answers in
    subst (λ xs. Plays whole tape start xs end) (sym written) (so_far (line ∷ answers) end (play_step whole rest behind f g line some e r h answers end p))

-- nothing is left of the tape
pub front_whole : (whole : ℕ) (tape rest : List ℕ) (start f : Floor) (front : List TapeAnswer) → length rest ≡ 0 → Front whole tape start front rest f → Plays whole tape start front f
front_whole whole tape rest start f front none so_far =
    let over = subst (λ xs. Plays whole xs f [] f) (sym (nil_from_length rest none)) ends in
    subst (λ xs. Plays whole tape start xs f) (append-nil front) (so_far [] f over)
