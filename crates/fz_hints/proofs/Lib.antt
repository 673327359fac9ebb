mod HintLemmas
