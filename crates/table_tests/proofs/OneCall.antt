-- A pass whose only entry is a call has published no list.
use Rattle.std.proofs.Common.{◌≡◌, ℕ, List, [], ◌∷◌, ◌++◌, ap, ◌∙◌, Option, None}
use Rattle.intern_core.specs.declared.history.Key.{Key}
use Rattle.intern_core.specs.declared.history.Reply.{Reply}
use Rattle.intern_core.specs.declared.history.Entry.{Entry}
use Rattle.intern_core.specs.declared.history.Entry.TheVariants.{Call}
use Rattle.intern_core.specs.History.{listing_in}

pub one_call : (n p : ℕ) (k : Key) (a : Reply) (mine before : List Entry) → mine ≡ before ++ Call p k a ∷ [] → before ≡ [] → listing_in mine n ≡ None
one_call n p k a mine before is none = ap (λ l. listing_in l n) is ∙ ap (λ (l : List Entry). listing_in (l ++ Call p k a ∷ []) n) none
