mod ContextLemmas
