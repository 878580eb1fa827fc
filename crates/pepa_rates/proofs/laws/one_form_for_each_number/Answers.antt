use Rattle.pepa_rates.proofs.LowestTerms.{reduced-same, same-reduced}
use Rattle.pepa_rates.proofs.laws.one_form_for_each_number.Goals as goal

pub returns : goal.returns
returns c n d m e n_some d_some m_some e_some =
    (same-reduced n d m e, reduced-same n d m e n_some d_some m_some e_some)
